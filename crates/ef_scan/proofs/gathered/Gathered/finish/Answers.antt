use Rattle.ef_scan.proofs.Gathering.{all_latin, all_open, finish_none}
use Rattle.ef_scan.proofs.gathered.Gathered.finish.Goals as goal

pub returns-in-Some : goal.returns-in-Some
returns-in-Some c = all_latin c.args.self c.in-Some.place c.alone.result c.in-Some.is c.alone.ensures

pub returns-in-None : goal.returns-in-None
returns-in-None c = λ all file parts h. finish_none all file c.args.self parts c.in_default.is h c.in-None.ensures.none

pub returns : goal.returns
returns c = all_open c.args.self c.in-Some-first_place.place c.faulty.result c.with_form.result c.in_default.is c.in-Some-first_place.ensures.some c.faulty.ensures c.with_form.ensures
