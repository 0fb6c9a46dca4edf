use Rattle.std.proofs.Common.{sym, subst, ap, map, take, ◌++◌, ◌∷◌, []}
use Rattle.std.proofs.lemmas.List.{take_all}
use Rattle.ef_token.specs.TokenForm.{TokensOf}
use Rattle.ef_forms.specs.Plain.{plain_placed}
use Rattle.ef_module.specs.Found.{AreFound}
use Rattle.ef_module.specs.Modules.{lists}
use Rattle.ef_module.proofs.ModuleFound.{found_none, lists_next, tokens_at}
use Rattle.ef_module.proofs.modules.find_forms.Goals as goal

pub loop-tokens-init : goal.loop-tokens-init
loop-tokens-init c = λ all e.
    subst (λ l. AreFound all [] l c.args.found.now) (sym (ap (map plain_placed) c.new-placed.ensures.items)) (subst (AreFound all [] []) (sym c.requires.none) (found_none all))

pub find_next-requires : goal.find_next-requires
find_next-requires c =
    subst (TokensOf c.args.names.now) (sym c.deref.ensures.value)
    (tokens_at c.args.names.now c.args.forms.now c.loop-tokens.tokens-index c.tokens-item.result c.loop-tokens-test.true c.tokens-item.is c.requires.named)

pub loop-tokens-preserved : goal.loop-tokens-preserved
loop-tokens-preserved c = λ all e.
    let before = lists (take c.loop-tokens.tokens-index c.args.forms.now) in
    subst (λ l. AreFound all l (map plain_placed c.find_next.new.placed.items) c.find_next.new.found)
    (sym (lists_next c.args.forms.now c.loop-tokens.tokens-index c.tokens-item.result c.loop-tokens-test.true c.tokens-item.is))
    (subst (λ ts. AreFound all (before ++ ts ∷ []) (map plain_placed c.find_next.new.placed.items) c.find_next.new.found) c.deref.ensures.value
    (c.in_ok-find_next.ensures all e before (c.loop-tokens.invariant all e)))

pub returns : goal.returns
returns c = λ all e.
    subst (λ l. AreFound all (lists l) (map plain_placed c.loop-tokens.placed.items) c.loop-tokens.found)
    (take_all c.loop-tokens.tokens-index c.args.forms.now c.loop-tokens-test.false) (c.loop-tokens.invariant all e)
