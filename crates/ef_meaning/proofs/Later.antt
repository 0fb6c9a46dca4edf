-- What is kept in a table of texts is kept in a later one.
use Rattle.std.proofs.Common.{ℕ, List, [], ◌∷◌}
use Rattle.ef_base.specs.declared.name.Name.{Name}
use Rattle.ef_base.specs.Texts.{Texts, Extends}
use Rattle.ef_base.specs.Laws.{extends_later}
use Rattle.ef_core.specs.declared.env.Bind.{Bind}
use Rattle.ef_core.specs.declared.literal.CoreVar.{CoreVar}
use Rattle.ef_core.specs.declared.lowered.Test.{Test}
use Rattle.ef_core.specs.Plain.{StepTree, ClauseTree}
use Rattle.ef_core.specs.Tree.{CoreTree, PatTrees}
use Rattle.ef_forms.specs.Tree.{Tree, Trees, Clauses}
use Rattle.ef_meaning.specs.Value.{Value}
use Rattle.ef_meaning.specs.Source as source
use Rattle.ef_meaning.specs.Core.{CoreModule}
use Rattle.ef_meaning.specs.Lowers.{Worlds, KeepsAll, KeepsExpr, KeepsBody, KeepsFunction}
use Rattle.ef_meaning.specs.Patterns.{IsGuard, KeepsPatterns, KeepsPicks}
use Rattle.ef_meaning.specs.Cases.{FailsFunction, FailsValue}

module _ (now all : Texts) (later : Extends now all) where
  pub world_earlier : (w : source.Module) (cw : CoreModule) → Worlds all w cw → Worlds now w cw
  world_earlier w cw world = record { begins = extends_later later world.begins; texts = world.texts; functions = world.functions }

  pub all_later : (es : List Tree) (n0 : ℕ) (env0 : List Bind) (added : List StepTree) (n1 : ℕ) (env1 : List Bind) (xs : List CoreTree) → KeepsAll now es n0 env0 added n1 env1 xs → KeepsAll all es n0 env0 added n1 env1 xs
  all_later es n0 env0 added n1 env1 xs k = record {
    drawn = k.drawn;
    below = k.below;
    arguments_drawn = k.arguments_drawn;
    made = k.made;
    bodies = λ w cw world. k.bodies w cw (world_earlier w cw world);
    keeps = λ b c desc w cw world. k.keeps b c desc w cw (world_earlier w cw world);
  }

  pub expr_later : (e : Tree) (n0 : ℕ) (env0 : List Bind) (added : List StepTree) (n1 : ℕ) (env1 : List Bind) (x : CoreTree) → KeepsExpr now e n0 env0 added n1 env1 x → KeepsExpr all e n0 env0 added n1 env1 x
  expr_later e n0 env0 added n1 env1 x k = record {
    drawn = k.drawn;
    below = k.below;
    made = k.made;
    bodies = λ w cw world. k.bodies w cw (world_earlier w cw world);
    keeps = λ b c desc w cw world. k.keeps b c desc w cw (world_earlier w cw world);
    argument = λ simple. all_later (e ∷ []) n0 env0 added n1 env1 (x ∷ []) (k.argument simple);
  }

  pub body_later : (es : List Tree) (env : List Bind) (sure : List Name) (body : CoreTree) → KeepsBody now es env sure body → KeepsBody all es env sure body
  body_later es env sure body k = record {
    made = k.made;
    bodies = λ w cw world. k.bodies w cw (world_earlier w cw world);
    keeps = λ b c desc w cw world. k.keeps b c desc w cw (world_earlier w cw world);
  }

  pub picks_later : (cs : Clauses) (env : List Bind) (sure : List Name) (made : List ClauseTree) → KeepsPicks now cs env sure made → KeepsPicks all cs env sure made
  picks_later cs env sure made k = record {
    entries = k.entries;
    bodies = λ w cw world. k.bodies w cw (world_earlier w cw world);
    fits = k.fits;
    keeps = λ vs b c desc w cw world. k.keeps vs b c desc w cw (world_earlier w cw world);
  }

  pub function_later : (f : source.Body) (params : List CoreVar) (body : CoreTree) → KeepsFunction now f params body → KeepsFunction all f params body
  function_later f params body k = record {
    made = k.made;
    bodies = λ w cw world. k.bodies w cw (world_earlier w cw world);
    keeps = λ w cw world. k.keeps w cw (world_earlier w cw world);
  }

  pub patterns_later : (ps : Trees) (n0 : ℕ) (bound : List Bind) (made : PatTrees) (tests : List Test) (n1 : ℕ) (binds : List Bind) → KeepsPatterns now ps n0 bound made tests n1 binds → KeepsPatterns all ps n0 bound made tests n1 binds
  patterns_later ps n0 bound made tests n1 binds k = record {
    drawn = k.drawn;
    below = k.below;
    tests_below = k.tests_below;
    fits = k.fits;
    agree = λ w more. k.agree w (extends_later later more);
    decided = λ w more. k.decided w (extends_later later more);
    keeps = λ w more. k.keeps w (extends_later later more);
  }

  pub guard_later : (tests : List Test) (guard : CoreTree) → IsGuard now tests guard → IsGuard all tests guard
  guard_later tests guard k = record { gives = λ w more. k.gives w (extends_later later more) }

  pub function_fails_later : (ys : List CoreVar) (e : CoreTree) → FailsFunction now ys e → FailsFunction all ys e
  function_fails_later ys e k = record { raises = λ w more. k.raises w (extends_later later more) }

  pub value_fails_later : (z : CoreVar) (reason : Value → Value) (e : CoreTree) → FailsValue now z reason e → FailsValue all z reason e
  value_fails_later z reason e k = record { raises = λ w more. k.raises w (extends_later later more) }
