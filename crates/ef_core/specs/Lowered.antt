-- What lowered trees are: in let form, and such that a text can say them and they meet the conditions.
use Rattle.ef_base.specs.Texts.{Texts}
use Rattle.ef_core.specs.declared.env.Bind.{Bind}
use Rattle.ef_core.specs.declared.lowered.Test.{Test}
use Rattle.ef_core.specs.Conditions.{conditions}
use Rattle.ef_core.specs.Everywhere.{Holds, Rule, both}
use Rattle.ef_core.specs.LetForm.{let_form}
use Rattle.ef_core.specs.Readable.{readable}
use Rattle.ef_core.specs.Tree.{CoreTree}

abbrev pub lowered : Texts → Rule
lowered texts = both let_form (both (readable texts) (conditions texts))

abbrev pub IsLowered : Texts → CoreTree → Type 0
IsLowered texts = Holds (lowered texts)

-- a text can say the variable
abbrev pub IsReadableBind : Texts → Bind → Type 0
IsReadableBind texts b = (readable texts).variable b.var

-- a text can say both variables
abbrev pub IsReadableTest : Texts → Test → Type 0
IsReadableTest texts t = (readable texts).variable t.left × (readable texts).variable t.right
