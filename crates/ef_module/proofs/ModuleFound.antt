-- What the answers for forms say of a module.
use Rattle.std.proofs.Common.{◌≡◌, ◌≢◌, ℕ, ◌+◌, ◌<◌, suc, zero, true, false, not, List, [], ◌∷◌, ◌++◌, refl, sym, ap, ◌∙◌, subst, arith, Some, None, IfSome, length, get_or, take, map, Vec, append-nil, append_assoc, cond}
use Rattle.std.specs.Prelude.{◌||◌}
use Rattle.std.specs.List.{list_any}
use Rattle.std.proofs.Math.Seq.{take-suc}
use Rattle.std.specs.declared.alloc.Global.{Global}
use Rattle.ef_base.specs.declared.fault.Fault.{Fault}
use Rattle.ef_base.specs.declared.fault.Place.{Place}
use Rattle.ef_base.specs.declared.name.Name.{Name}
use Rattle.ef_base.specs.Faults.{set_of}
use Rattle.ef_base.specs.NamedFaults.{no_module, plain}
use Rattle.ef_base.specs.FaultTable as table
use Rattle.ef_base.specs.Texts.{Texts, Extends, HasName}
use Rattle.ef_base.proofs.FaultLaws.{set_of-append}
use Rattle.ef_token.specs.declared.token.Token.{Token}
use Rattle.ef_token.specs.TokenForm.{TokensOf, AllTokensOf}
use Rattle.ef_forms.specs.declared.form.PlacedForm.{PlacedForm}
use Rattle.ef_forms.specs.Plain.{plain_form, plain_placed}
use Rattle.ef_forms.specs.Tree.{FormTree, PlacedTree, ModuleTree, module_name, export, import, record_of, attribute, dropped, export_all, function}
use Rattle.ef_forms.specs.OfTable.{FormOf, FormsOf, ModuleOf}
use Rattle.ef_parse.specs.Spelled.{start_of}
use Rattle.ef_profile.specs.Adds.{where_}
use Rattle.ef_module.specs.Forms as f
use Rattle.ef_module.specs.Forms.{AreFormFaults}
use Rattle.ef_module.specs.Found as a
use Rattle.ef_module.specs.Found.{AreAnswers, AreFound}
use Rattle.ef_module.specs.Modules.{ReadsForms, no_forms, read, faulty, lists, is_module, is_module_kind, begins_module, has_module, before_module, seconds, module_faults, order_faults, late_faults, number_faults, most_functions, first_name, module_named, ReadsModule, ModuleFaults, IsModule, AreModuleFaults}
use Rattle.ef_module.proofs.Later.{same_kind}
use Rattle.ef_module.proofs.Sets.{no_fault, none_in_set, first_none, second_none, none_written, set_both}

abbrev pub placed : List Token → FormTree → PlacedTree
placed ts f = record { place = start_of ts; form = f }

-- ---- one form of the list

pub tokens_at : (now : Texts) (vs : List (Vec Token Global)) (i : ℕ) (v : Vec Token Global) → i < length vs → v ≡ get_or vs i v → AllTokensOf now (lists vs) → TokensOf now v.items
tokens_at now [] i v h e names = absurd (omega arith)
tokens_at now (u ∷ vs) zero v h e names = subst (λ (z : Vec Token Global). TokensOf now z.items) (sym e) names.0
tokens_at now (u ∷ vs) (suc i) v h e names = tokens_at now vs i v (omega arith) e names.1

lists_more : (vs : List (Vec Token Global)) (v : Vec Token Global) → lists (vs ++ v ∷ []) ≡ lists vs ++ v.items ∷ []
lists_more [] v = refl
lists_more (u ∷ vs) v = ap (λ z. u.items ∷ z) (lists_more vs v)

pub lists_next : (vs : List (Vec Token Global)) (i : ℕ) (v : Vec Token Global) → i < length vs → v ≡ get_or vs i v → lists (take (i + 1) vs) ≡ lists (take i vs) ++ v.items ∷ []
lists_next vs i v h e = ap lists (ap (λ n. take n vs) (more_is i) ∙ take-suc vs i v h ∙ ap (λ z. take i vs ++ z ∷ []) (sym e)) ∙ lists_more (take i vs) v
  where
    more_is : (i : ℕ) → i + 1 ≡ suc i
    more_is i = omega arith

pub map_more : {A B : Type 0} (g : A → B) (xs : List A) (x : A) → map g (xs ++ x ∷ []) ≡ map g xs ++ g x ∷ []
map_more g [] x = refl
map_more g (y ∷ xs) x = ap (λ z. g y ∷ z) (map_more g xs x)

module _ (all : Texts) where
  -- ---- one more answer

  answers_read : (tss : List (List Token)) (fs : List PlacedTree) (own : List Fault) (ts : List Token) (g : FormTree)
      → AreAnswers all tss fs own → f.IsForm all g ts → AreAnswers all (tss ++ ts ∷ []) (fs ++ placed ts g ∷ []) own
  answers_read tss fs own ts g a.no_forms is = a.read ts [] g [] [] is a.no_forms
  answers_read tss fs own ts g (a.read us uss h hs faults one rest) is = a.read us (uss ++ ts ∷ []) h (hs ++ placed ts g ∷ []) faults one (answers_read uss hs faults ts g rest is)
  answers_read tss fs own ts g (a.faulty us uss hs found faults one rest) is = a.faulty us (uss ++ ts ∷ []) (hs ++ placed ts g ∷ []) found faults one (answers_read uss hs faults ts g rest is)

  answers_faulty : (tss : List (List Token)) (fs : List PlacedTree) (own : List Fault) (ts : List Token) (found : List Fault)
      → AreAnswers all tss fs own → (is : AreFormFaults all ts found) → AreAnswers all (tss ++ ts ∷ []) fs (own ++ is.written)
  answers_faulty tss fs own ts found a.no_forms is = subst (AreAnswers all (ts ∷ []) []) (append-nil is.written) (a.faulty ts [] [] found [] is a.no_forms)
  answers_faulty tss fs own ts found (a.read us uss h hs faults one rest) is = a.read us (uss ++ ts ∷ []) h hs (faults ++ is.written) one (answers_faulty uss hs faults ts found rest is)
  answers_faulty tss fs own ts found (a.faulty us uss hs other faults one rest) is =
      subst (AreAnswers all (us ∷ (uss ++ ts ∷ [])) hs) (sym (append_assoc one.written faults is.written))
      (a.faulty us (uss ++ ts ∷ []) hs other (faults ++ is.written) one (answers_faulty uss hs faults ts found rest is))

  forms_more : (fs : List PlacedTree) (g : PlacedTree) → FormsOf all fs → FormOf all g.form → FormsOf all (fs ++ g ∷ [])
  forms_more [] g h is = (is, tt)
  forms_more (e ∷ fs) g h is = (h.0, forms_more fs g h.1 is)

  pub found_none : AreFound all [] [] []
  found_none = record { written = []; answers = a.no_forms; sorted = refl; of_table = tt }

  pub found_read : (tss : List (List Token)) (fs : List PlacedTree) (found : List Fault) (ts : List Token) (g : FormTree)
      → AreFound all tss fs found → f.IsForm all g ts → FormOf all g → AreFound all (tss ++ ts ∷ []) (fs ++ placed ts g ∷ []) found
  found_read tss fs found ts g h is of = record {
    written = h.written;
    answers = answers_read tss fs h.written ts g h.answers is;
    sorted = h.sorted;
    of_table = forms_more fs (placed ts g) h.of_table of;
  }

  pub next_read : (tss : List (List Token)) (old new : List PlacedForm) (found : List Fault) (ts : List Token) (x : PlacedForm) → new ≡ old ++ x ∷ [] → x.place ≡ start_of ts
      → AreFound all tss (map plain_placed old) found → f.IsForm all (plain_form x.form) ts → FormOf all (plain_form x.form) → AreFound all (tss ++ ts ∷ []) (map plain_placed new) found
  next_read tss old new found ts x is stands h one of =
      let last : plain_placed x ≡ placed ts (plain_form x.form) = ap (λ (p : Place). let y : PlacedTree = record { place = p; form = plain_form x.form } in y) stands in
      subst (λ fs. AreFound all (tss ++ ts ∷ []) fs found) (sym (ap (map plain_placed) is ∙ map_more plain_placed old x ∙ ap (λ p. map plain_placed old ++ p ∷ []) last))
      (found_read tss (map plain_placed old) found ts (plain_form x.form) h one of)

  pub found_faulty : (tss : List (List Token)) (fs : List PlacedTree) (old new : List Fault) (ts : List Token) (faults : List Fault)
      → AreFound all tss fs old → AreFormFaults all ts faults → ((before : List Fault) → old ≡ set_of before → new ≡ set_of (before ++ faults)) → AreFound all (tss ++ ts ∷ []) fs new
  found_faulty tss fs old new ts faults h is adds = record {
    written = h.written ++ is.written;
    answers = answers_faulty tss fs h.written ts faults h.answers is;
    sorted = adds h.written h.sorted ∙ ap (λ s. set_of (h.written ++ s)) is.sorted ∙ set_of-append h.written is.written;
    of_table = h.of_table;
  }

  -- ---- all answers

  reads_all : (tss : List (List Token)) (fs : List PlacedTree) (own : List Fault) → AreAnswers all tss fs own → ReadsForms all tss fs own
  reads_all tss fs own a.no_forms = no_forms
  reads_all tss fs own (a.read ts uss g gs faults one rest) = read ts uss g gs faults one.reads (reads_all uss gs faults rest)
  reads_all tss fs own (a.faulty ts uss gs found faults one rest) = faulty ts uss gs one.written faults one.found (reads_all uss gs faults rest)

  alone_all : (tss : List (List Token)) (fs gs : List PlacedTree) (own others : List Fault) → AreAnswers all tss fs own → ReadsForms all tss gs others → (gs ≡ fs) × (set_of others ≡ set_of own)
  alone_all tss fs gs own others a.no_forms no_forms = (refl, refl)
  alone_all tss fs gs own others (a.read ts uss g hs faults one rest) (read _ _ h is more r rs) =
      let same = alone_all uss hs is faults more rest rs in
      (rw (one.alone h r, same.0) refl, same.1)
  alone_all tss fs gs own others (a.read ts uss g hs faults one rest) (faulty _ _ is theirs more r rs) = absurd (one.faultless theirs r)
  alone_all tss fs gs own others (a.faulty ts uss hs found faults one rest) (read _ _ h is more r rs) = absurd (one.unread h r)
  alone_all tss fs gs own others (a.faulty ts uss hs found faults one rest) (faulty _ _ is theirs more r rs) =
      let same = alone_all uss hs is faults more rest rs in
      (same.0, set_both theirs one.written more faults (one.alone theirs r ∙ one.sorted) same.1)

  -- ---- the order of forms

  order_alike : (tss : List (List Token)) (fs : List PlacedTree) (xs ys : List Fault) → set_of xs ≡ set_of ys → order_faults all tss fs xs ≡ order_faults all tss fs ys
  order_alike tss fs [] [] e = refl
  order_alike tss fs [] (y ∷ ys) e = absurd (no_fault y ys (none_in_set (y ∷ ys) (sym e)))
  order_alike tss fs (x ∷ xs) [] e = absurd (no_fault x xs (none_in_set (x ∷ xs) e))
  order_alike tss fs (x ∷ xs) (y ∷ ys) e = refl

  begins_same : (now : Texts) (tss : List (List Token)) → Extends now all → AllTokensOf now tss → list_any (begins_module now) tss ≡ list_any (begins_module all) tss
  begins_same now [] later h = refl
  begins_same now (ts ∷ tss) later h =
      ap (λ k. is_module_kind k || list_any (begins_module now) tss) (sym (same_kind now all later ts h.0)) ∙ ap (λ b. begins_module all ts || b) (begins_same now tss later h.1)

  order_same : (now : Texts) (tss : List (List Token)) (fs : List PlacedTree) (own : List Fault) → Extends now all → AllTokensOf now tss → order_faults now tss fs own ≡ order_faults all tss fs own
  order_same now tss fs [] later h = refl
  order_same now tss fs (x ∷ own) later h = ap (λ b. where_ (not b) no_module ++ (late_faults false fs ++ number_faults most_functions fs)) (begins_same now tss later h)

  -- what is in the set after the order was looked at
  pub ordered : (now : Texts) (tss : List (List Token)) (fs : List PlacedTree) (found new : List Fault) → Extends now all → AllTokensOf now tss → (h : AreFound all tss fs found)
      → ((before : List Fault) → found ≡ set_of before → new ≡ set_of (before ++ order_faults now tss fs found)) → new ≡ set_of (h.written ++ order_faults all tss fs h.written)
  ordered now tss fs found new later named h adds =
      adds h.written h.sorted
      ∙ ap (λ l. set_of (h.written ++ l)) (order_same now tss fs found later named ∙ order_alike tss fs found h.written (ap set_of h.sorted ∙ set_of-append [] h.written))

  -- ---- modules

  pub module_faulty : (tss : List (List Token)) (fs : List PlacedTree) (found new : List Fault) → (h : AreFound all tss fs found) → new ≡ set_of (h.written ++ order_faults all tss fs h.written) → new ≢ [] → AreModuleFaults all tss new
  module_faulty tss fs found new h is some = record {
    written = h.written ++ order_faults all tss fs h.written;
    found = record { trees = fs; own = h.written; reads = reads_all tss fs h.written h.answers; are = refl };
    sorted = is;
    some = some;
    alone = alone;
  }
    where
      alone : (others : List Fault) → ModuleFaults all tss others → set_of others ≡ new
      alone others m =
          let same = alone_all tss fs m.trees h.written m.own h.answers m.reads in
          ap set_of m.are ∙ ap (λ gs. set_of (m.own ++ order_faults all tss gs m.own)) same.0
          ∙ set_both m.own h.written (order_faults all tss fs m.own) (order_faults all tss fs h.written) same.1 (ap set_of (order_alike tss fs m.own h.written same.1))
          ∙ sym is

  name_of_table : (fs : List PlacedTree) (n : Name) → FormsOf all fs → first_name fs ≡ Some n → HasName all n
  name_of_table [] n h is = absurd (cc)
  name_of_table (g ∷ fs) n h is = named_of g.form n h.0 is
    where
      named_of : (g : FormTree) (n : Name) → FormOf all g → module_named g ≡ Some n → HasName all n
      named_of (module_name m) n h is = subst (λ o. IfSome o (HasName all)) is h
      named_of (export rs) n h is = absurd (cc)
      named_of (import m rs) n h is = absurd (cc)
      named_of (record_of r) n h is = absurd (cc)
      named_of (attribute m e) n h is = absurd (cc)
      named_of dropped n h is = absurd (cc)
      named_of export_all n h is = absurd (cc)
      named_of (function g) n h is = absurd (cc)

  same_some : (n m : Name) → Some n ≡ Some m → n ≡ m
  same_some n m e = cc

  pub module_read : (tss : List (List Token)) (fs : List PlacedTree) (found new : List Fault) (n : Name) → (h : AreFound all tss fs found)
      → new ≡ set_of (h.written ++ order_faults all tss fs h.written) → new ≡ [] → first_name fs ≡ Some n
      → (let m : ModuleTree = record { name = n; forms = fs } in IsModule all m tss × ModuleOf all m)
  module_read tss fs found new n h is none named =
      let whole : h.written ++ order_faults all tss fs h.written ≡ [] = none_written new (h.written ++ order_faults all tss fs h.written) is none in
      let own : h.written ≡ [] = first_none h.written (order_faults all tss fs h.written) whole in
      let order : order_faults all tss fs [] ≡ [] = ap (order_faults all tss fs) (sym own) ∙ second_none h.written (order_faults all tss fs h.written) whole in (
        record {
          reads = record { reads = subst (ReadsForms all tss fs) own (reads_all tss fs h.written h.answers); ordered = order; named = named };
          alone = alone;
          faultless = faultless own order;
        },
        (name_of_table fs n h.of_table named, h.of_table),
      )
    where
      alone : (other : ModuleTree) → ReadsModule all other tss → (let m : ModuleTree = record { name = n; forms = fs } in other ≡ m)
      alone other r =
          let same = alone_all tss fs other.forms h.written [] h.answers r.reads in
          let name : other.name ≡ n = same_some other.name n (sym r.named ∙ ap first_name same.0 ∙ named) in
          rw (sym name, sym same.0) refl

      faultless : h.written ≡ [] → order_faults all tss fs [] ≡ [] → (faults : List Fault) → ModuleFaults all tss faults → faults ≡ []
      faultless own order faults m =
          let same = alone_all tss fs m.trees h.written m.own h.answers m.reads in
          let theirs : m.own ≡ [] = none_in_set m.own (same.1 ∙ ap set_of own) in
          m.are ∙ (rw (theirs, same.0) order)

  -- where nothing is wrong with the order, the first form names the module
  begins : (g : FormTree) (p : Place) → where_ (not (is_module g)) (plain p table.form_before_module) ≡ [] → module_named g ≡ None → ⊥
  begins (module_name m) p e none = absurd (cc)
  begins (export rs) p e none = no_fault _ _ e
  begins (import m rs) p e none = no_fault _ _ e
  begins (record_of r) p e none = no_fault _ _ e
  begins (attribute m t) p e none = no_fault _ _ e
  begins dropped p e none = no_fault _ _ e
  begins export_all p e none = no_fault _ _ e
  begins (function g) p e none = no_fault _ _ e

  first_there : (fs : List PlacedTree) → module_faults fs ≡ [] → first_name fs ≡ None → ⊥
  first_there [] e none = no_fault _ _ e
  first_there (g ∷ fs) e none =
      elim (has_module (g ∷ fs)) as (λ b. cond b (before_module (g ∷ fs) ++ seconds false (g ∷ fs)) (no_module ∷ []) ≡ [] → ⊥) [
        | true ↦ λ none_of. begins g.form g.place (first_none (before_module (g ∷ fs)) (seconds false (g ∷ fs)) none_of) none
        | false ↦ λ one. no_fault _ _ one
      ] e

  pub module_named_first : (tss : List (List Token)) (fs : List PlacedTree) (found new : List Fault) → (h : AreFound all tss fs found)
      → new ≡ set_of (h.written ++ order_faults all tss fs h.written) → new ≡ [] → first_name fs ≡ None → ⊥
  module_named_first tss fs found new h is none unnamed =
      let whole : h.written ++ order_faults all tss fs h.written ≡ [] = none_written new (h.written ++ order_faults all tss fs h.written) is none in
      let own : h.written ≡ [] = first_none h.written (order_faults all tss fs h.written) whole in
      let order : order_faults all tss fs [] ≡ [] = ap (order_faults all tss fs) (sym own) ∙ second_none h.written (order_faults all tss fs h.written) whole in
      first_there fs (first_none (module_faults fs) (late_faults false fs ++ number_faults most_functions fs) order) unnamed
