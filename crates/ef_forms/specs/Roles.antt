-- What an expression is there for, by what it is a part of.
use Rattle.ef_forms.specs.declared.role.Role.{Role}
use Rattle.ef_forms.specs.declared.role.Role.TheVariants.{Body, Pattern, Guard, PatternSize, Target}
use Rattle.ef_forms.specs.Tree.{Tree, tree, atom}

-- the parts of a node, where they have no role of their own: of a pattern they are patterns, of a guard they belong to it
abbrev pub inside : Role → Role
inside Pattern = Pattern
inside Guard = Guard
inside _ = Body

-- the size of a segment whose value has this role
abbrev pub of_size : Role → Role
of_size Pattern = PatternSize
of_size r = r

-- what a call calls: an atom is a name, another expression a value like the others
abbrev pub of_target : Role → Tree → Role
of_target r (tree p (atom n)) = Target
of_target r _ = r
