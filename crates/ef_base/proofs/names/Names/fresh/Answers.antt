use Rattle.std.proofs.Common.{◌≡◌, sym, subst, List, [], ◌∷◌, ◌++◌, ℕ}
use Rattle.std.specs.Prelude.{Result, Ok, Err, IfOk, OnOk}
use Rattle.ef_base.specs.Laws.{extends_same}
use Rattle.ef_base.specs.declared.memory.NoMemory.{NoMemory}
use Rattle.ef_base.specs.declared.name.Name.{Name}
use Rattle.ef_base.specs.Texts.{Texts, Extends, Gains, IsAbsent, IsNameOf, text}
use Rattle.ef_base.proofs.Tables.{gains_new}
use Rattle.ef_base.proofs.names.Names.fresh.Goals as goal

gained : (r : Result Name NoMemory) (old new : Texts) (bytes : List ℕ) → IsAbsent bytes old → OnOk r (Gains bytes old new)
    → IfOk r (λ name. (all : Texts) → Extends new all → IsNameOf all name bytes) → IfOk r (λ name. new ≡ old ++ text new name ∷ [])
gained (Ok name) old new bytes absent gains named = gains_new old new name bytes gains (named new (extends_same new)) absent
gained (Err e) old new bytes absent gains named = gains

pub returns-clause-table : goal.returns-clause-table
returns-clause-table c =
    let absent : IsAbsent c.deref.result.now c.args.self.now = subst (λ (t : List ℕ). IsAbsent t c.args.self.now) (sym c.deref.ensures) c.in_ok-text.ensures.absent in
    gained c.intern.result c.args.self.now c.intern.new.self c.deref.result.now absent c.intern.ensures.table c.intern.ensures.named
