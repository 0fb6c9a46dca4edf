use Rattle.std.proofs.Common.{rules, refl, ◌∙◌}
use Rattle.ef_scan.proofs.Gathering.{gathers_fault, is_faulty}
use Rattle.ef_scan.proofs.gathered.Gathered.fault.Goals as goal

pub returns : goal.returns
returns c = λ all file parts p e place h.
    let f = c.faulty.ensures in
    gathers_fault all file c.args.self.now _ parts p h c.args.code c.faulty.result e (is_faulty file p.at c.args.code c.faulty.result f.0 f.1 (f.2 ∙ place) f.3 f.4) (search rules) (search rules) refl
