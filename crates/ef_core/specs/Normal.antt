-- Normal trees: those that a text is read as. What can be a literal is one, a run of lets is one node, one value stands
-- alone, and no variable is named as a numbered one.
use Rattle.std.specs.Prelude.{ℕ, ◌<◌, ◌^◌, ◌≢◌, List, ◌∷◌, decimal}
use Rattle.ef_base.specs.Texts.{Texts, text}
use Rattle.ef_core.specs.declared.literal.CoreVar.{CoreVar}
use Rattle.ef_core.specs.declared.literal.CoreVar.TheVariants.{Numbered, Named}
use Rattle.ef_core.specs.Everywhere.{Rule}
use Rattle.ef_core.specs.Tree.{CoreTree, CoreTrees, CoreSteps, PatTree, PatTrees, lit, value_list, tuple, list, list_to, lets, end, more, done, step, pat_lit, pat_tuple, pat_list, pat_list_to, no_pats, more_pats}

abbrev pub IsLit : CoreTree → Type 0
IsLit (lit l) = Unit {0}
IsLit _ = ⊥

abbrev pub AreLits : CoreTrees → Type 0
AreLits end = Unit {0}
AreLits (more e es) = IsLit e × AreLits es

abbrev pub IsPatLit : PatTree → Type 0
IsPatLit (pat_lit l) = Unit {0}
IsPatLit _ = ⊥

abbrev pub ArePatLits : PatTrees → Type 0
ArePatLits no_pats = Unit {0}
ArePatLits (more_pats p ps) = IsPatLit p × ArePatLits ps

abbrev pub IsNotOne : CoreTrees → Type 0
IsNotOne end = Unit {0}
IsNotOne (more e end) = ⊥
IsNotOne (more e (more f es)) = Unit {0}

abbrev pub IsRun : CoreSteps → Type 0
IsRun done = ⊥
IsRun (step vs e ss) = Unit {0}

abbrev pub IsNoRun : CoreTree → Type 0
IsNoRun (lets ss e) = ⊥
IsNoRun _ = Unit {0}

-- not `_` and the decimal number of a numbered variable
abbrev pub IsOwnName : List ℕ → Type 0
IsOwnName chars = (n : ℕ) → n < 2 ^ 32 → chars ≢ 95 ∷ decimal n

abbrev pub NormalExpr : CoreTree → Type 0
NormalExpr (value_list es) = IsNotOne es
NormalExpr (tuple es) = AreLits es → ⊥
NormalExpr (list es) = AreLits es → ⊥
NormalExpr (list_to es e) = AreLits es → IsLit e → ⊥
NormalExpr (lets ss e) = IsRun ss × IsNoRun e
NormalExpr _ = Unit {0}

abbrev pub NormalPat : PatTree → Type 0
NormalPat (pat_tuple ps) = ArePatLits ps → ⊥
NormalPat (pat_list ps) = ArePatLits ps → ⊥
NormalPat (pat_list_to ps p) = ArePatLits ps → IsPatLit p → ⊥
NormalPat _ = Unit {0}

abbrev pub NormalVar : Texts → CoreVar → Type 0
NormalVar texts (Numbered n) = Unit {0}
NormalVar texts (Named n) = IsOwnName (text texts n)

abbrev pub normal : Texts → Rule
normal texts = record { expr = NormalExpr; pat = NormalPat; literal = λ l. Unit {0}; variable = NormalVar texts }
