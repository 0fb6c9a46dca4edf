use Rattle.std.proofs.Common.{take, map}
use Rattle.ef_base.specs.Texts.{Texts, Extends}
use Rattle.ef_forms.specs.Plain.{plain_placed}
use Rattle.ef_module.specs.Found.{AreFound}
use Rattle.ef_module.specs.Modules.{lists}
use Rattle.ef_module.proofs.modules.find_forms.Given as goal

abbrev pub invariant-loop-tokens : goal.invariant-loop-tokens
invariant-loop-tokens l = (all : Texts) → Extends l.names all → AreFound all (lists (take l.tokens-index l.forms)) (map plain_placed l.placed.items) l.found
