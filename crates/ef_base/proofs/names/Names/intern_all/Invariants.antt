use Rattle.std.proofs.Common.{ℕ, ◌<◌, List, slice_index_or}
use Rattle.std.specs.Borrow.{Bor}
use Rattle.ef_base.specs.Texts.{AllDiffer, AllUtf8, Extends, HasText}
use Rattle.ef_base.proofs.names.Names.intern_all.Given as goal

abbrev pub invariant-loop-text : goal.invariant-loop-text
invariant-loop-text l = record {
  held : (k : ℕ) (d : Bor (List ℕ)) → k < l.text-index → HasText l.self (slice_index_or l.texts k d).now;
  kept : Extends l.fn.self l.self;
  differ : AllDiffer l.self;
  utf8 : AllUtf8 l.self;
}
