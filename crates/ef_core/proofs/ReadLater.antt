-- What a text says under a table of names, it says under a later one.
use Rattle.std.specs.Prelude.{ℕ, ℤ, ◌≡◌, ◌⊎◌, List, codes, refl}
use Rattle.std.proofs.Common.{sym, subst, inl, inr}
use Rattle.ef_base.specs.declared.name.Name.{Name}
use Rattle.ef_base.specs.Characters.{BeginsAndGoesOn, is_upper, is_name_part}
use Rattle.ef_base.specs.Laws.{named_later}
use Rattle.ef_base.specs.Texts.{Texts, Extends, HasName, IsNameOf, text}
use Rattle.ef_core.specs.declared.literal.CoreVar.{CoreVar}
use Rattle.ef_core.specs.declared.literal.CoreVar.TheVariants.{Numbered, Named}
use Rattle.ef_core.specs.Conditions.{IsSegment, AreFlags, AreSegments, ArePatSegments, SegmentsAreRight, PatSegmentsAreRight, conditions}
use Rattle.ef_core.specs.Normal.{IsOwnName}
use Rattle.ef_core.specs.Readable.{readable}
use Rattle.ef_core.specs.Tree.{LitTree, CoreTree, CoreSegments, PatTree, PatSegments, int, atom, lit_list, lit_list_to, lit_tuple, no_lits, more_lits, var, lit, bin, no_segments, segment, pat_list_to, pat_bin, no_pat_segments, pat_segment}
use Rattle.ef_core.specs.WellFormed.{IsSize, HaveSizes, WellFormedPat}
use Rattle.ef_core.proofs.Later.{names_later, pat_names_later, lit_name_later, var_later}

module _ (now all : Texts) (later : Extends now all) where
  same_text : (n : Name) → HasName now n → text now n ≡ text all n
  same_text n within = sym (named_later now all n (text now n) (record { within = within; is = refl }) later).is

  -- ---- well-formed and normal parts

  size_later : (e : CoreTree) → IsSize now e → IsSize all e
  size_later (var v) is = tt
  size_later (lit (int i)) is = tt
  size_later (lit (atom n)) is = named_later now all n (codes "all") is later
  size_later (lit (lit_list ls)) is = absurd is
  size_later (lit (lit_list_to ls l)) is = absurd is
  size_later (lit (lit_tuple ls)) is = absurd is
  size_later e is = absurd is

  sizes_later : (ss : PatSegments) → HaveSizes now ss → HaveSizes all ss
  sizes_later no_pat_segments is = tt
  sizes_later (pat_segment p size unit kind flags ss) is = (size_later size is.0, is.1, sizes_later ss is.2)

  well_formed_pat_later : (p : PatTree) → WellFormedPat now p → WellFormedPat all p
  well_formed_pat_later (pat_bin ss) is = sizes_later ss is
  well_formed_pat_later (pat_list_to ps p) is = is
  well_formed_pat_later p is = tt

  pub variable_later : (v : CoreVar) → (readable now).variable v → (readable all).variable v
  variable_later (Numbered n) is = is
  variable_later (Named n) is = (
    subst IsOwnName (same_text n is.1.1) is.0,
    (subst (BeginsAndGoesOn is_upper is_name_part) (same_text n is.1.1) is.1.0, var_later now all later (Named n) is.1.1),
  )

  pub expr_later : (e : CoreTree) → (readable now).expr e → (readable all).expr e
  expr_later e is = (is.0, (is.1.0, names_later now all later e is.1.1))

  pub pat_later : (p : PatTree) → (readable now).pat p → (readable all).pat p
  pat_later p is = (is.0, (well_formed_pat_later p is.1.0, pat_names_later now all later p is.1.1))

  pub literal_later : (l : LitTree) → (readable now).literal l → (readable all).literal l
  literal_later l is = (is.0, (is.1.0, lit_name_later now all later l is.1.1))

  -- ---- conditions

  word_later : (n : Name) (a b : List ℕ) → IsNameOf now n a ⊎ IsNameOf now n b → IsNameOf all n a ⊎ IsNameOf all n b
  word_later n a b (inl is) = inl (named_later now all n a is later)
  word_later n a b (inr is) = inr (named_later now all n b is later)

  flags_later : (flags : LitTree) → AreFlags now flags → AreFlags all flags
  flags_later (lit_list (more_lits (atom sign) (more_lits (atom order) no_lits))) are =
      (word_later sign (codes "signed") (codes "unsigned") are.0, word_later order (codes "big") (codes "little") are.1)
  flags_later flags are = absurd are

  segment_later : (unit : ℤ) (kind : Name) (flags : LitTree) → IsSegment now unit kind flags → IsSegment all unit kind flags
  segment_later unit kind flags is = record {
    bits = is.bits;
    unit_is = is.unit_is;
    at_least = is.at_least;
    at_most = is.at_most;
    kind_is = word_later kind (codes "integer") (codes "binary") is.kind_is;
    flags_are = flags_later flags is.flags_are;
  }

  segments_later : (ss : CoreSegments) → AreSegments now ss → AreSegments all ss
  segments_later no_segments are = tt
  segments_later (segment e size unit kind flags ss) are = (segment_later unit kind flags are.0, segments_later ss are.1)

  pat_segments_later : (ss : PatSegments) → ArePatSegments now ss → ArePatSegments all ss
  pat_segments_later no_pat_segments are = tt
  pat_segments_later (pat_segment p size unit kind flags ss) are = (segment_later unit kind flags are.0, pat_segments_later ss are.1)

  right_later : (e : CoreTree) → SegmentsAreRight now e → SegmentsAreRight all e
  right_later (bin ss) are = segments_later ss are
  right_later e are = tt

  pub condition_later : (e : CoreTree) → (conditions now).expr e → (conditions all).expr e
  condition_later e are = (are.0, are.1, right_later e are.2)

  pub pat_right_later : (p : PatTree) → PatSegmentsAreRight now p → PatSegmentsAreRight all p
  pat_right_later (pat_bin ss) are = pat_segments_later ss are
  pat_right_later p are = tt
