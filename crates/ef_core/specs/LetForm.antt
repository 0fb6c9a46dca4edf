-- Let form: every argument, element, segment value, segment size and timeout is a variable or a literal.
use Rattle.std.specs.Prelude.{}
use Rattle.ef_core.specs.Everywhere.{Rule, Holds}
use Rattle.ef_core.specs.Tree.{CoreTree, CoreTrees, CoreSegments, PatTree, PatSegments, var, lit, tuple, list, list_to, bin, apply, call, primop, receive, end, more, no_segments, segment, pat_bin, no_pat_segments, pat_segment}

-- a variable or a literal
abbrev pub IsSimple : CoreTree → Type 0
IsSimple (var v) = Unit {0}
IsSimple (lit l) = Unit {0}
IsSimple _ = ⊥

abbrev pub AreSimple : CoreTrees → Type 0
AreSimple end = Unit {0}
AreSimple (more e es) = IsSimple e × AreSimple es

abbrev pub AreSimpleSegments : CoreSegments → Type 0
AreSimpleSegments no_segments = Unit {0}
AreSimpleSegments (segment e size unit kind flags ss) = IsSimple e × IsSimple size × AreSimpleSegments ss

abbrev pub HaveSimpleSizes : PatSegments → Type 0
HaveSimpleSizes no_pat_segments = Unit {0}
HaveSimpleSizes (pat_segment p size unit kind flags ss) = IsSimple size × HaveSimpleSizes ss

abbrev pub HasSimpleParts : CoreTree → Type 0
HasSimpleParts (tuple es) = AreSimple es
HasSimpleParts (list es) = AreSimple es
HasSimpleParts (list_to es e) = AreSimple es × IsSimple e
HasSimpleParts (bin ss) = AreSimpleSegments ss
HasSimpleParts (apply f es) = AreSimple es
HasSimpleParts (call m f es) = AreSimple es
HasSimpleParts (primop n es) = AreSimple es
HasSimpleParts (receive cs t b) = IsSimple t
HasSimpleParts _ = Unit {0}

abbrev pub PatHasSimpleParts : PatTree → Type 0
PatHasSimpleParts (pat_bin ss) = HaveSimpleSizes ss
PatHasSimpleParts _ = Unit {0}

abbrev pub let_form : Rule
let_form = record { expr = HasSimpleParts; pat = PatHasSimpleParts; literal = λ l. Unit {0}; variable = λ v. Unit {0} }

abbrev pub IsLetForm : CoreTree → Type 0
IsLetForm = Holds let_form
