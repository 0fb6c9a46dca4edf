-- What holds of the names of Core trees in a later table.
use Rattle.ef_base.specs.declared.name.Name.{Name}
use Rattle.ef_base.specs.Laws.{has_later}
use Rattle.ef_base.specs.Texts.{Extends, HasName, Texts}
use Rattle.ef_core.specs.declared.literal.CoreVar.{CoreVar}
use Rattle.ef_core.specs.declared.literal.CoreVar.TheVariants.{Numbered, Named}
use Rattle.ef_core.specs.declared.literal.FName.{FName}
pub use Rattle.ef_core.proofs.HoldsLaws.{each_same}
use Rattle.ef_core.proofs.HoldsLaws.{def_holds_map, holds_map, lit_holds_map}
use Rattle.ef_core.specs.OfTable.{CoreOf, DefOf, FNameOf, FNamesOf, KindsOf, LitNameOf, LitOf, NamesOf, PatKindsOf, PatNamesOf, VarOf, of_table}
use Rattle.ef_core.specs.Tree.{CoreTree, CoreSegments, CoreDefs, DefTree, LitTree, PatTree, PatSegments, int, atom, lit_list, lit_list_to, lit_tuple, var, lit, fun_name, a_fun, value_list, tuple, list, list_to, bin, lets, letrec, case_of, apply, call, primop, do_then, receive, try_catch, no_segments, segment, no_defs, def, pat_var, pat_lit, pat_tuple, pat_list, pat_list_to, alias, pat_bin, no_pat_segments, pat_segment}

module _ (now all : Texts) (later : Extends now all) where
  -- ---- names of the table

  name_later : (n : Name) → HasName now n → HasName all n
  name_later n is = has_later now all n is later

  pub var_later : (v : CoreVar) → VarOf now v → VarOf all v
  var_later (Numbered n) is = tt
  var_later (Named n) is = name_later n is

  fname_later : (f : FName) → FNameOf now f → FNameOf all f
  fname_later f is = name_later f.name is

  kinds_later : (ss : CoreSegments) → KindsOf now ss → KindsOf all ss
  kinds_later no_segments is = tt
  kinds_later (segment e size unit kind flags ss) is = (name_later kind is.0, kinds_later ss is.1)

  pat_kinds_later : (ss : PatSegments) → PatKindsOf now ss → PatKindsOf all ss
  pat_kinds_later no_pat_segments is = tt
  pat_kinds_later (pat_segment p size unit kind flags ss) is = (name_later kind is.0, pat_kinds_later ss is.1)

  fnames_later : (ds : CoreDefs) → FNamesOf now ds → FNamesOf all ds
  fnames_later no_defs is = tt
  fnames_later (def f vs b ds) is = (fname_later f is.0, fnames_later ds is.1)

  pub names_later : (e : CoreTree) → NamesOf now e → NamesOf all e
  names_later (fun_name f) is = fname_later f is
  names_later (bin ss) is = kinds_later ss is
  names_later (letrec ds e) is = fnames_later ds is
  names_later (primop n es) is = name_later n is
  names_later (var v) is = tt
  names_later (lit l) is = tt
  names_later (a_fun vs b) is = tt
  names_later (value_list es) is = tt
  names_later (tuple es) is = tt
  names_later (list es) is = tt
  names_later (list_to es e) is = tt
  names_later (lets ss e) is = tt
  names_later (case_of e cs) is = tt
  names_later (apply f es) is = tt
  names_later (call m f es) is = tt
  names_later (do_then a b) is = tt
  names_later (receive cs t b) is = tt
  names_later (try_catch a vs b ws h) is = tt

  pub pat_names_later : (p : PatTree) → PatNamesOf now p → PatNamesOf all p
  pat_names_later (pat_bin ss) is = pat_kinds_later ss is
  pat_names_later (pat_var v) is = tt
  pat_names_later (pat_lit l) is = tt
  pat_names_later (pat_tuple ps) is = tt
  pat_names_later (pat_list ps) is = tt
  pat_names_later (pat_list_to ps p) is = tt
  pat_names_later (alias v p) is = tt

  pub lit_name_later : (l : LitTree) → LitNameOf now l → LitNameOf all l
  lit_name_later (atom n) is = name_later n is
  lit_name_later (int i) is = tt
  lit_name_later (lit_list ls) is = tt
  lit_name_later (lit_list_to ls l) is = tt
  lit_name_later (lit_tuple ls) is = tt

  pub lit_later : (l : LitTree) → LitOf now l → LitOf all l
  lit_later = lit_holds_map (of_table now) (of_table all) names_later pat_names_later lit_name_later var_later

  pub core_later : (e : CoreTree) → CoreOf now e → CoreOf all e
  core_later = holds_map (of_table now) (of_table all) names_later pat_names_later lit_name_later var_later

  pub def_later : (d : DefTree) → DefOf now d → DefOf all d
  def_later d is =
      (fname_later d.name is.0, def_holds_map (of_table now) (of_table all) names_later pat_names_later lit_name_later var_later d is.1)
