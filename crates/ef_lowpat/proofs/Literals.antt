-- Patterns that are literals, in lists.
use Rattle.std.proofs.Common.{◌≡◌, ℕ, zero, suc, ◌+◌, ◌<◌, List, [], ◌∷◌, ◌++◌, length, get_or, map, take, Some, Vec, Box, inl, inr, refl, sym, ap, ◌∙◌, subst, arith}
use Rattle.std.proofs.lemmas.List.{map-append, take_more}
use Rattle.std.specs.declared.alloc.Global.{Global}
use Rattle.ef_core.specs.declared.literal.CoreLit.{CoreLit}
use Rattle.ef_core.specs.declared.literal.CoreLit.TheVariants as made_lit
use Rattle.ef_core.specs.declared.tree.CorePat.{CorePat}
use Rattle.ef_core.specs.declared.tree.CorePat.TheVariants as made
use Rattle.ef_core.specs.Laws.{plain_lit_items, plain_pat_items, plain_pat_lit}
use Rattle.ef_core.specs.Normal.{ArePatLits, IsPatLit}
use Rattle.ef_core.specs.Plain.{pats, plain_lit, plain_lits, plain_pat, plain_pats}
use Rattle.ef_core.specs.Tree as to
use Rattle.ef_core.specs.Tree.{PatTree, PatTrees}
use Rattle.ef_core.specs.WellFormed.{AreSomePats}
use Rattle.ef_lowpat.specs.Nodes.{Finishes, FinishesTo, lit_pats}

pub literal_at : (ps : List CorePat) (i : ℕ) (p : CorePat) → i < length ps → p ≡ get_or ps i p → ArePatLits (plain_pats ps) → IsPatLit (plain_pat p)
literal_at [] i p small read all = absurd (omega arith)
literal_at (q ∷ ps) zero p small read all = subst (λ x. IsPatLit (plain_pat x)) (sym read) all.0
literal_at (q ∷ ps) (suc i) p small read all = literal_at ps i p (omega arith) read all.1

one_more : (ps : List PatTree) (p : PatTree) → ArePatLits (pats ps) → IsPatLit p → ArePatLits (pats (ps ++ p ∷ []))
one_more [] p all one = (one, tt)
one_more (q ∷ ps) p all one = (all.0, one_more ps p all.1 one)

pub literals_more : (ps : List CorePat) (i : ℕ) (p : CorePat) → i < length ps → p ≡ get_or ps i p → ArePatLits (plain_pats (take i ps)) → IsPatLit (plain_pat p) → ArePatLits (plain_pats (take (i + 1) ps))
literals_more ps i p small read all one =
    let next : take (i + 1) ps ≡ take i ps ++ p ∷ [] = take_more ps i p small ∙ ap (λ x. take i ps ++ x ∷ []) (sym read) in
    let mapped = ap (map plain_pat) next ∙ map-append plain_pat (take i ps) (p ∷ []) in
    subst (λ qs. ArePatLits (pats qs)) (sym mapped) (one_more (map plain_pat (take i ps)) (plain_pat p) all one)

said_more : (ps : List CorePat) (ls : List CoreLit) (p : CorePat) (l : CoreLit) → plain_pats ps ≡ lit_pats (plain_lits ls) → plain_pat p ≡ to.pat_lit (plain_lit l) → plain_pats (ps ++ p ∷ []) ≡ lit_pats (plain_lits (ls ++ l ∷ []))
said_more [] [] p l all one = ap (λ q. to.more_pats q to.no_pats) one
said_more [] (k ∷ ls) p l all one = absurd cc
said_more (q ∷ ps) [] p l all one = absurd cc
said_more (q ∷ ps) (k ∷ ls) p l all one =
    let first : plain_pat q ≡ to.pat_lit (plain_lit k) = cc in
    let rest : plain_pats ps ≡ lit_pats (plain_lits ls) = cc in
    λ i. to.more_pats (first i) (said_more ps ls p l rest one i)

pub said_push : (ps : List CorePat) (ls new : List CoreLit) (p : CorePat) (l : CoreLit) → new ≡ ls ++ l ∷ [] → plain_pats ps ≡ lit_pats (plain_lits ls) → plain_pat p ≡ to.pat_lit (plain_lit l) → plain_pats (ps ++ p ∷ []) ≡ lit_pats (plain_lits new)
said_push ps ls new p l is all one = said_more ps ls p l all one ∙ ap (λ x. lit_pats (plain_lits x)) (sym is)

-- ---- lists with a tail

finishes_to : (ps : PatTrees) (tail p : PatTree) → AreSomePats ps → Finishes (to.pat_list_to ps tail) p → FinishesTo ps tail p
finishes_to to.no_pats tail p some done = absurd some
finishes_to (to.more_pats q ps) tail p some done = done

some_pats : (ps : List CorePat) → (length ps ≡ 0 → ⊥) → AreSomePats (plain_pats ps)
some_pats [] some = some refl
some_pats (p ∷ ps) some = tt

pub list_to_said : (ps : List CorePat) (tail : CorePat) (ls : Vec CoreLit Global) (l : CoreLit) (b : Box CoreLit Global) → (length ps ≡ 0 → ⊥) → plain_pats ps ≡ lit_pats (plain_lits ls.items) → plain_pat tail ≡ to.pat_lit (plain_lit l) → b.value ≡ l
    → FinishesTo (plain_pats ps) (plain_pat tail) (plain_pat (made.Lit (made_lit.List ls (Some b))))
list_to_said ps tail ls l b some items one boxed =
    finishes_to (plain_pats ps) (plain_pat tail) _ (some_pats ps some)
    (inl (to.lit_list_to (plain_lits ls.items) (plain_lit b.value), (items, one ∙ ap (λ k. to.pat_lit (plain_lit k)) (sym boxed)), plain_pat_lit (made_lit.List ls (Some b)) ∙ ap to.pat_lit (plain_lit_items ls (Some b))))

pub list_to_node : (ps : Vec CorePat Global) (tail : CorePat) (b : Box CorePat Global) → (length ps.items ≡ 0 → ⊥) → b.value ≡ tail → (ArePatLits (plain_pats ps.items) → IsPatLit (plain_pat tail) → ⊥)
    → FinishesTo (plain_pats ps.items) (plain_pat tail) (plain_pat (made.List ps (Some b)))
list_to_node ps tail b some boxed not_both =
    finishes_to (plain_pats ps.items) (plain_pat tail) _ (some_pats ps.items some)
    (inr (not_both, plain_pat_items ps (Some b) ∙ ap (λ t. to.pat_list_to (plain_pats ps.items) (plain_pat t)) boxed))

pub no_items : (ps : List CorePat) (tail p : PatTree) → length ps ≡ 0 → p ≡ tail → FinishesTo (plain_pats ps) tail p
no_items [] tail p none same = same
no_items (q ∷ ps) tail p none same = absurd (omega arith)
