-- What tokens spell by the rows of the grammar, and what is answered for them. What is said of spellings holds under each
-- later table of names.
use Rattle.std.specs.Prelude.{◌≡◌, ◌⊎◌, Bool, true, false, List, [], ◌∷◌, Option, Some, None}
use Rattle.ef_base.specs.declared.fault.Fault.{Fault}
use Rattle.ef_base.specs.declared.fault.Place.{Place}
use Rattle.ef_base.specs.declared.fault.Refusal.{Refusal}
use Rattle.ef_base.specs.declared.fault.Refusal.TheVariants.{Faulty, NoMemory}
use Rattle.ef_base.specs.NamedFaults.{start, syntax_error, too_deep}
use Rattle.ef_base.specs.Texts.{Texts}
use Rattle.ef_token.specs.declared.token.Token.{Token}
use Rattle.ef_forms.specs.Tree as t
use Rattle.ef_forms.specs.Tree.{Tree, FormTree}
use Rattle.ef_forms.specs.OfTable.{FormOf}
use Rattle.ef_forms.specs.Plain as p
use Rattle.ef_forms.specs.Plain.{plain_form}
use Rattle.ef_build.specs.Values.{Operand, Clauses, Value, operand, clauses, form}
use Rattle.ef_rows.specs.declared.single.Start.{Start}
use Rattle.ef_rows.specs.declared.single.Start.TheVariants as start_is
use Rattle.ef_rows.specs.Makes.{Makes}
use Rattle.ef_parse.specs.declared.spelled.FormKind.{FormKind}
use Rattle.ef_parse.specs.declared.spelled.FormKind.TheVariants as kind_is
use Rattle.ef_parse.specs.declared.spelled.Spelled as rust
use Rattle.ef_parse.specs.declared.spelled.Spelled.TheVariants as spelled_is

abbrev pub as_operand : Value → Option Operand
as_operand (operand x) = Some x
as_operand _ = None

abbrev pub as_clauses : Value → Option Clauses
as_clauses (clauses x) = Some x
as_clauses _ = None

abbrev pub as_form : Value → Option FormTree
as_form (form f) = Some f
as_form _ = None

-- where the tokens stand
abbrev pub start_of : List Token → Place
start_of [] = start
start_of (t ∷ ts) = t.place

-- ---- expressions

abbrev pub SpellsExpression : Texts → Tree → List Token → Type 0
SpellsExpression all e ts = (x : Operand) × (faults : List Fault) × (x.tree ≡ e) × Makes all start_is.Expression ts (operand x) faults false

abbrev pub IsDeepExpression : Texts → List Token → Type 0
IsDeepExpression all ts = (x : Operand) × (faults : List Fault) × Makes all start_is.Expression ts (operand x) faults true

abbrev pub IsNoExpression : Texts → List Token → Type 0
IsNoExpression all ts = (x : Operand) (faults : List Fault) (deep : Bool) → Makes all start_is.Expression ts (operand x) faults deep → ⊥

abbrev pub IsNoShallowExpression : Texts → List Token → Type 0
IsNoShallowExpression all ts = (e : Tree) → SpellsExpression all e ts → ⊥

-- the one tree that is spelled
pub record IsExpression (all : Texts) (e : Tree) (ts : List Token) : Type 0 where
  pub spelled : SpellsExpression all e ts
  pub alone : (other : Tree) → SpellsExpression all other ts → other ≡ e
  pub shallow : IsDeepExpression all ts → ⊥

abbrev pub IsExpressionRefused : Texts → List Token → Refusal → Type 0
IsExpressionRefused all ts (Faulty f) =
    ((f ≡ syntax_error (start_of ts)) × IsNoExpression all ts)
    ⊎ ((f ≡ too_deep (start_of ts)) × IsDeepExpression all ts × IsNoShallowExpression all ts)
IsExpressionRefused all ts NoMemory = Unit {0}

-- ---- clauses of a function, whatever their names and the numbers of their patterns are

abbrev pub SpellsClauses : Texts → t.Clauses → List Token → Type 0
SpellsClauses all cs ts = (x : Clauses) × (faults : List Fault) × (p.clauses x.clauses ≡ cs) × Makes all start_is.Clauses ts (clauses x) faults false

abbrev pub AreDeepClauses : Texts → List Token → Type 0
AreDeepClauses all ts = (x : Clauses) × (faults : List Fault) × Makes all start_is.Clauses ts (clauses x) faults true

abbrev pub AreNoClauses : Texts → List Token → Type 0
AreNoClauses all ts = (x : Clauses) (faults : List Fault) (deep : Bool) → Makes all start_is.Clauses ts (clauses x) faults deep → ⊥

abbrev pub AreNoShallowClauses : Texts → List Token → Type 0
AreNoShallowClauses all ts = (cs : t.Clauses) → SpellsClauses all cs ts → ⊥

pub record AreClauses (all : Texts) (cs : t.Clauses) (ts : List Token) : Type 0 where
  pub spelled : SpellsClauses all cs ts
  pub alone : (other : t.Clauses) → SpellsClauses all other ts → other ≡ cs
  pub shallow : AreDeepClauses all ts → ⊥

abbrev pub AreClausesRefused : Texts → List Token → Refusal → Type 0
AreClausesRefused all ts (Faulty f) =
    ((f ≡ syntax_error (start_of ts)) × AreNoClauses all ts)
    ⊎ ((f ≡ too_deep (start_of ts)) × AreDeepClauses all ts × AreNoShallowClauses all ts)
AreClausesRefused all ts NoMemory = Unit {0}

-- ---- forms, the full stop among their tokens

abbrev pub start_for : FormKind → Start
start_for kind_is.Function = start_is.Function
start_for kind_is.Module = start_is.Module
start_for kind_is.Export = start_is.Export
start_for kind_is.Import = start_is.Import
start_for kind_is.Record = start_is.Record
start_for kind_is.Dropped = start_is.Dropped
start_for kind_is.Other = start_is.Other

-- the form, and the faults of its heads
abbrev pub SpellsForm : Texts → FormKind → FormTree → List Fault → List Token → Type 0
SpellsForm all k f faults ts = Makes all (start_for k) ts (form f) faults false

abbrev pub IsDeepForm : Texts → FormKind → List Token → Type 0
IsDeepForm all k ts = (f : FormTree) × (faults : List Fault) × Makes all (start_for k) ts (form f) faults true

abbrev pub IsNoShallowForm : Texts → FormKind → List Token → Type 0
IsNoShallowForm all k ts = (f : FormTree) (faults : List Fault) → SpellsForm all k f faults ts → ⊥

abbrev pub IsNoForm : Texts → FormKind → List Token → Type 0
IsNoForm all k ts = (f : FormTree) (faults : List Fault) (deep : Bool) → Makes all (start_for k) ts (form f) faults deep → ⊥

pub record IsForm (all : Texts) (k : FormKind) (f : FormTree) (faults : List Fault) (ts : List Token) : Type 0 where
  pub spelled : SpellsForm all k f faults ts
  pub alone : (other : FormTree) (others : List Fault) → SpellsForm all k other others ts → (other ≡ f) × (others ≡ faults)
  pub shallow : IsDeepForm all k ts → ⊥

abbrev pub IsSpelledForm : Texts → FormKind → List Token → rust.Spelled → Type 0
IsSpelledForm all k ts spelled_is.No = IsNoForm all k ts
IsSpelledForm all k ts spelled_is.Deep = IsDeepForm all k ts × IsNoShallowForm all k ts
IsSpelledForm all k ts (spelled_is.Form f faults) = IsForm all k (plain_form f) faults.items ts × FormOf all (plain_form f)
