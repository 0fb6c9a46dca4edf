-- Expressions that are literals, in lists.
use Rattle.std.proofs.Common.{◌≡◌, ℕ, zero, suc, ◌+◌, ◌<◌, List, [], ◌∷◌, ◌++◌, length, get_or, map, take, Some, Vec, Box, inl, inr, refl, sym, ap, ◌∙◌, subst, arith}
use Rattle.std.proofs.lemmas.List.{map-append}
use Rattle.std.specs.declared.alloc.Global.{Global}
use Rattle.ef_core.specs.declared.literal.CoreLit.{CoreLit}
use Rattle.ef_core.specs.declared.literal.CoreLit.TheVariants as made_lit
use Rattle.ef_core.specs.declared.tree.CoreExpr.{CoreExpr}
use Rattle.ef_core.specs.declared.tree.CoreExpr.TheVariants as made
use Rattle.ef_core.specs.Laws.{plain_lit_items, plain_items, plain_literal}
use Rattle.ef_core.specs.Normal.{AreLits, IsLit}
use Rattle.ef_core.specs.Plain.{lits, plain, plain_all, plain_lit, trees}
use Rattle.ef_core.specs.Tree as to
use Rattle.ef_core.specs.Tree.{CoreTree}
use Rattle.ef_lowpat.proofs.Takes.{take_next}
use Rattle.ef_lower.specs.Nodes.{JoinsTo, literal_values}

pub literal_at : (es : List CoreExpr) (i : ℕ) (e : CoreExpr) → i < length es → e ≡ get_or es i e → AreLits (plain_all es) → IsLit (plain e)
literal_at [] i e small read all = absurd (omega arith)
literal_at (d ∷ es) zero e small read all = subst (λ x. IsLit (plain x)) (sym read) all.0
literal_at (d ∷ es) (suc i) e small read all = literal_at es i e (omega arith) read all.1

one_more : (es : List CoreTree) (e : CoreTree) → AreLits (trees es) → IsLit e → AreLits (trees (es ++ e ∷ []))
one_more [] e all one = (one, tt)
one_more (d ∷ es) e all one = (all.0, one_more es e all.1 one)

pub literals_more : (es : List CoreExpr) (i : ℕ) (e : CoreExpr) → i < length es → e ≡ get_or es i e → AreLits (plain_all (take i es)) → IsLit (plain e) → AreLits (plain_all (take (i + 1) es))
literals_more es i e small read all one =
    subst (λ ds. AreLits (trees ds)) (sym (take_next plain es i e small read)) (one_more (map plain (take i es)) (plain e) all one)

pub said_push : (es : List CoreExpr) (ls new : List CoreLit) (e : CoreExpr) (l : CoreLit) → new ≡ ls ++ l ∷ [] → map plain es ≡ literal_values (map plain_lit ls) → plain e ≡ to.lit (plain_lit l) → map plain (es ++ e ∷ []) ≡ literal_values (map plain_lit new)
said_push es ls new e l is all one =
    map-append plain es (e ∷ [])
    ∙ ap (λ ds. ds ++ plain e ∷ []) all
    ∙ ap (λ d. literal_values (map plain_lit ls) ++ d ∷ []) one
    ∙ sym (map-append (λ k. to.lit k) (map plain_lit ls) (plain_lit l ∷ []))
    ∙ ap literal_values (sym (map-append plain_lit ls (l ∷ [])) ∙ ap (map plain_lit) (sym is))

-- ---- lists with a tail

pub list_to_said : (es : List CoreExpr) (tail : CoreExpr) (ls : Vec CoreLit Global) (l : CoreLit) (b : Box CoreLit Global) → (length es ≡ 0 → ⊥) → map plain es ≡ literal_values (map plain_lit ls.items) → plain tail ≡ to.lit (plain_lit l) → b.value ≡ l
    → JoinsTo (map plain es) (plain tail) (plain (made.Lit (made_lit.List ls (Some b))))
list_to_said [] tail ls l b some items one boxed = absurd (some refl)
list_to_said (e ∷ es) tail ls l b some items one boxed =
    inl (map plain_lit ls.items, plain_lit l, items, one, plain_literal (made_lit.List ls (Some b)) ∙ ap to.lit (plain_lit_items ls (Some b)) ∙ ap (λ k. to.lit (to.lit_list_to (lits (map plain_lit ls.items)) (plain_lit k))) boxed)

pub list_to_node : (es : Vec CoreExpr Global) (tail : CoreExpr) (b : Box CoreExpr Global) → (length es.items ≡ 0 → ⊥) → b.value ≡ tail → (AreLits (plain_all es.items) → IsLit (plain tail) → ⊥)
    → JoinsTo (map plain es.items) (plain tail) (plain (made.List es (Some b)))
list_to_node es tail b some boxed not_both = by es.items some not_both (plain_items es (Some b) ∙ ap (λ t. to.list_to (plain_all es.items) (plain t)) boxed)
  where
    by : (ds : List CoreExpr) → (length ds ≡ 0 → ⊥) → (AreLits (plain_all ds) → IsLit (plain tail) → ⊥) → plain (made.List es (Some b)) ≡ to.list_to (plain_all ds) (plain tail) → JoinsTo (map plain ds) (plain tail) (plain (made.List es (Some b)))
    by [] filled not is = absurd (filled refl)
    by (d ∷ ds) filled not is = inr (not, is)

pub no_items : (es : List CoreExpr) (tail e : CoreTree) → length es ≡ 0 → e ≡ tail → JoinsTo (map plain es) tail e
no_items [] tail e none same = same
no_items (d ∷ es) tail e none same = absurd (omega arith)
