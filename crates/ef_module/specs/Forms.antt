-- What is answered for the tokens of a form.
use Rattle.std.specs.Prelude.{◌≡◌, ◌≢◌, codes, Bool, false, List, [], ◌∷◌, ◌++◌, cond}
use Rattle.ef_base.specs.declared.fault.Fault.{Fault}
use Rattle.ef_base.specs.Faults.{set_of}
use Rattle.ef_base.specs.NamedFaults.{too_deep}
use Rattle.ef_base.specs.Texts.{Texts}
use Rattle.ef_token.specs.declared.token.Token.{Token}
use Rattle.ef_forms.specs.Nodes.{form_nodes}
use Rattle.ef_forms.specs.Tree.{FormTree, attribute, dropped, export_all}
use Rattle.ef_parse.specs.Spelled.{start_of, IsDeepForm, IsNoForm, SpellsForm}
use Rattle.ef_module.specs.declared.forms.FormRefusal.{FormRefusal}
use Rattle.ef_module.specs.declared.forms.FormRefusal.TheVariants.{Faulty, NoMemory}
use Rattle.ef_profile.specs.Kinds.{kind_of, not_spelled}
use Rattle.ef_module.specs.Refused.{token_faults}
use Rattle.ef_profile.specs.Unbuilt.{is_text, mentions, tree_faults}

abbrev pub is_compile : Texts → FormTree → Bool
is_compile all (attribute n e) = is_text all (codes "compile") n
is_compile all _ = false

-- `-compile(..)` exports all functions where it says so, and has no other meaning
abbrev pub kept : Texts → FormTree → FormTree
kept all f = cond (is_compile all f) (cond (mentions all (codes "export_all") (form_nodes f)) export_all dropped) f

-- The answer for the tokens of a form, in the order in which faults are looked for: those of tokens, and nothing else where
-- there are some; then that no form is spelled; that one is nested too deep; the faults of its heads and of its tree.
pub data FormFaults (all : Texts) (ts : List Token) : List Fault → Type 0 where
  of_tokens : token_faults all ts ≢ [] → FormFaults all ts (token_faults all ts)
  is_not_spelled : token_faults all ts ≡ [] → IsNoForm all (kind_of all ts) ts → FormFaults all ts (not_spelled all ts ∷ [])
  is_too_deep : token_faults all ts ≡ [] → IsDeepForm all (kind_of all ts) ts → FormFaults all ts (too_deep (start_of ts) ∷ [])
  of_tree : (f : FormTree) (heads : List Fault) → token_faults all ts ≡ [] → SpellsForm all (kind_of all ts) f heads ts
      → heads ++ tree_faults all (start_of ts) f ≢ [] → FormFaults all ts (heads ++ tree_faults all (start_of ts) f)

-- the form that is spelled without a fault, as far as it has a meaning
pub record ReadsForm (all : Texts) (f : FormTree) (ts : List Token) : Type 0 where
  pub written : FormTree
  pub tokens : token_faults all ts ≡ []
  pub spelled : SpellsForm all (kind_of all ts) written [] ts
  pub tree : tree_faults all (start_of ts) written ≡ []
  pub is : f ≡ kept all written

-- the one form that is read, or the faults, sorted
pub record IsForm (all : Texts) (f : FormTree) (ts : List Token) : Type 0 where
  pub reads : ReadsForm all f ts
  pub alone : (other : FormTree) → ReadsForm all other ts → other ≡ f
  pub faultless : (faults : List Fault) → FormFaults all ts faults → ⊥

pub record AreFormFaults (all : Texts) (ts : List Token) (faults : List Fault) : Type 0 where
  pub written : List Fault
  pub found : FormFaults all ts written
  pub sorted : faults ≡ set_of written
  pub some : faults ≢ []
  pub alone : (others : List Fault) → FormFaults all ts others → set_of others ≡ faults
  pub unread : (f : FormTree) → ReadsForm all f ts → ⊥

abbrev pub IsFormRefused : Texts → List Token → FormRefusal → Type 0
IsFormRefused all ts (Faulty faults) = AreFormFaults all ts faults
IsFormRefused all ts NoMemory = Unit {0}
