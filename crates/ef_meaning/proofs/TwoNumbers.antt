-- A text that is read and keeps the meaning, over a table with two numbers of one text.
use Rattle.std.proofs.Common.{◌≡◌, ◌≢◌, ◌<◌, ◌-◌, ◌==◌, ◌^◌, ℕ, zero, suc, inl, inr, ⊎_elim, Bool, true, codes, List, [], ◌∷◌, Option, Some, None, get_or, refl, ap, arith}
use Rattle.std.specs.Prelude.{◌&&◌, IsUtf8, decimal, slice_index}
use Rattle.std.proofs.lemmas.Bool.{and_parts}
use Rattle.std.proofs.lemmas.Bool.Decides.{nat_tests}
use Rattle.std.proofs.lemmas.Str.{IsUtf8-from_ascii}
use Rattle.ef_base.specs.Texts.{Texts, AllUtf8, text}
use Rattle.ef_core.specs.declared.literal.CoreVar.TheVariants.{Named, Numbered}
use Rattle.ef_core.specs.declared.literal.FName.{FName}
use Rattle.ef_core.specs.Layout.{text_of}
use Rattle.ef_core.specs.Readable.{IsReadable, readable}
use Rattle.ef_core.specs.Reads.{Reads}
use Rattle.ef_core.proofs.Law.{reads}
use Rattle.ef_core.specs.Plain.{steps}
use Rattle.ef_core.specs.Tree as c
use Rattle.ef_core.specs.Tree.{CoreTree}
use Rattle.ef_forms.specs.Built.{IsBuilt}
use Rattle.ef_forms.specs.Plain.{trees}
use Rattle.ef_meaning.specs.Value.{Value}
use Rattle.ef_meaning.specs.End.{Gives, and_then}
use Rattle.ef_meaning.specs.Keeps.{Keeps}
use Rattle.ef_meaning.specs.Match.{Bindings, value_of}
use Rattle.ef_meaning.specs.Source as source
use Rattle.ef_meaning.specs.Source.{Module, Source}
use Rattle.ef_meaning.specs.Core as core
use Rattle.ef_meaning.specs.Core.{CoreModule, Code, Funs, Target, Vars, value_at}
use Rattle.ef_meaning.specs.Lowers.{Entry, Exports, KeepsBody, KeepsDefinition, KeepsFunctions, Related, SameAt, env_from}
use Rattle.ef_meaning.specs.Runs.{KeepsMeaning}
use Rattle.ef_meaning.specs.Examples.{f_name, m_name, x_name, error_name, erlang_name, get_module_info_name, module_info_name, numbered, here, var, function, identity, core_var, core_atom, core_call, core_function}
use Rattle.ef_meaning.specs.Refused.{repeating, two_numbers}
use Rattle.ef_meaning.proofs.Bodies.{function_keeps}
use Rattle.ef_meaning.proofs.Kept.{module_keeps}
use Rattle.ef_meaning.proofs.Simulate.{gives_keeps, keeps_same}

-- ---- the texts of the table

-- bytes of one character each
abbrev are_small : List ℕ → Bool
are_small [] = true
are_small (c ∷ cs) = (c - 127 == 0) && are_small cs

abbrev all_small : Texts → Bool
all_small [] = true
all_small (t ∷ ts) = are_small t && all_small ts

small_at : (cs : List ℕ) → are_small cs ≡ true → (i : ℕ) → slice_index cs i < 128
small_at [] p i = omega arith
small_at (c ∷ cs) p zero = let one = (and_parts (c - 127 == 0) (are_small cs) p).0 in grind (arith, nat_tests)
small_at (c ∷ cs) p (suc i) = small_at cs (and_parts (c - 127 == 0) (are_small cs) p).1 i

utf8_at : (ts : Texts) → all_small ts ≡ true → (i : ℕ) → IsUtf8 (get_or ts i [])
utf8_at [] p i = IsUtf8-from_ascii [] (small_at [] refl)
utf8_at (t ∷ ts) p zero = IsUtf8-from_ascii t (small_at t (and_parts (are_small t) (all_small ts) p).0)
utf8_at (t ∷ ts) p (suc i) = utf8_at ts (and_parts (are_small t) (all_small ts) p).1 i

all_utf8 : AllUtf8 repeating
all_utf8 = λ n within. utf8_at repeating refl n.index

-- ---- the module

same_head : (c d : ℕ) (cs ds : List ℕ) → c ∷ cs ≡ d ∷ ds → c ≡ d
same_head c d cs ds is = cc

no_number : (n : ℕ) → n < 2 ^ 32 → codes "X" ≢ 95 ∷ decimal n
no_number n small is = let heads = same_head 88 95 [] (decimal n) is in absurd (omega (arith, heads))

first : (readable repeating).variable (Numbered 0)
first = (tt, (omega arith, tt))

x_one : (readable repeating).variable (Named x_name)
x_one = (no_number, ((refl, tt), omega arith))

x_two : (readable repeating).variable (Named (numbered 30))
x_two = (no_number, ((refl, tt), omega arith))

apart : (f g : FName) → (f.name.index ≡ g.name.index → ⊥) → f ≡ g → ⊥
apart f g other is = other (ap (λ (h : FName). h.name.index) is)

two_readable : IsReadable repeating two_numbers
two_readable = record {
  parts = record {
    terms = tt;
    defs = (
      ((first, tt), (((tt, tt), (tt, tt)), ((x_one, tt), ((tt, (tt, tt)), first), ((x_two, tt), ((tt, (tt, tt)), (tt, (tt, omega arith))), tt)), ((tt, (tt, tt)), x_one))),
      (
        (tt, ((tt, ((tt, tt, (tt, tt)), tt)), ((tt, (tt, tt)), (tt, (tt, omega arith))), ((tt, (tt, tt)), (tt, (tt, omega arith))), (((tt, (tt, tt)), (tt, (tt, omega arith))), tt))),
        (
          ((first, tt), ((tt, ((tt, tt, (tt, (tt, tt))), tt)), ((tt, (tt, tt)), (tt, (tt, omega arith))), ((tt, (tt, tt)), (tt, (tt, omega arith))), (((tt, (tt, tt)), (tt, (tt, omega arith))), (((tt, (tt, tt)), first), tt)))),
          tt,
        ),
      ),
    );
  };
  names_of = (
    omega arith,
    tt,
    tt,
    (
      (omega arith, ((tt, tt), (tt, ((omega arith, tt), (tt, tt), ((omega arith, tt), (tt, omega arith), tt)), (tt, omega arith)))),
      (
        (omega arith, (tt, (tt, (tt, omega arith), (tt, omega arith), ((tt, omega arith), tt)))),
        (
          (omega arith, ((tt, tt), (tt, (tt, omega arith), (tt, omega arith), ((tt, omega arith), ((tt, tt), tt))))),
          tt,
        ),
      ),
    ),
  );
  parameters = ((refl, omega arith), ((refl, omega arith), ((refl, omega arith), tt)));
  conditions = record {
    parts = record {
      terms = tt;
      defs = (
        ((tt, tt), (((((λ h. h), tt), (((λ h. h), tt), tt)), tt, tt), ((tt, tt), ((tt, tt, tt), tt), ((tt, tt), ((tt, tt, tt), tt), tt)), ((tt, tt, tt), tt))),
        (
          (tt, ((tt, tt, tt), ((tt, tt, tt), tt), ((tt, tt, tt), tt), (((tt, tt, tt), tt), tt))),
          (
            ((tt, tt), ((tt, tt, tt), ((tt, tt, tt), tt), ((tt, tt, tt), tt), (((tt, tt, tt), tt), (((tt, tt, tt), tt), tt)))),
            tt,
          ),
        ),
      );
    };
    parameters_differ = (((λ h. h), tt), (tt, (((λ h. h), tt), tt)));
    functions_differ = (
      (λ h. ⊎_elim (λ e. apart _ _ (λ i. let n : 1 ≡ 13 = i in absurd (omega arith)) e) (λ q. ⊎_elim (λ e. apart _ _ (λ i. let n : 1 ≡ 13 = i in absurd (omega arith)) e) (λ z. z) q) h),
      ((λ h. ⊎_elim (λ e. let arity : 0 ≡ 1 = ap (λ (g : FName). g.arity) e in absurd (omega arith)) (λ z. z) h), ((λ h. h), tt)),
    );
    exports_defined = tt;
    in_scope = (((inl refl, (tt, tt)), inr (inl refl)), ((tt, tt, (tt, tt)), ((tt, tt, (tt, (inl refl, tt))), tt)));
  };
}

pub reads_two : Reads repeating (text_of repeating two_numbers) two_numbers
reads_two = reads repeating two_numbers all_utf8 two_readable (omega arith)

-- ---- it keeps the meaning

abbrev two_body : CoreTree
two_body = c.lets (steps (record { vars = Named x_name ∷ []; value = core_var 0 } ∷ record { vars = Named (numbered 30) ∷ []; value = core_atom error_name } ∷ [])) (c.var (Named x_name))

two_evaluated : (w : CoreModule) (ls : core.Levels) (d : Vars) (fs : Funs) (t : Target) (v : Value) → value_at (Numbered 0) d ≡ Some v → core.eval w two_body ls d fs t ≡ Gives (v ∷ []) t
two_evaluated w ls d fs t v held =
    ap (λ o. and_then (and_then (and_then (core.held_value o t) (λ vs u. core.given (core.bind (Named x_name ∷ []) vs d) u))
    (λ f u. core.eval_steps w (steps (record { vars = Named (numbered 30) ∷ []; value = core_atom error_name } ∷ [])) ls f fs u)) (λ f u. core.eval w (c.var (Named x_name)) ls f fs u)) held

two_keeps : KeepsBody repeating (var x_name ∷ []) (env_from 0 (x_name ∷ [])) [] two_body
two_keeps = record {
  made = [];
  bodies = λ w cw world all inc n calls. tt;
  keeps = λ b d desc w cw world all inc n calls en fs s t hides same. by b d w cw all n en fs s t same (value_of x_name b) (desc.each x_name);
}
  where
    by : (b : Bindings) (d : Vars) (w : Module) (cw : CoreModule) (all : List Entry) (n : ℕ) (en : List Code) (fs : Funs) (s : Source) (t : Target) → Related cw all en s t →
        (o : Option Value) → SameAt (Some (Numbered 0)) o d → Keeps (Exports []) (Related cw all en) n (source.named o b s) (λ m. core.core cw m two_body d fs t)
    by b d w cw all n en fs s t same None held = absurd held
    by b d w cw all n en fs s t same (Some v) held =
        keeps_same (Exports []) (Related cw all en) n _ (Gives (v, b) s) _ (λ m. Gives (v ∷ []) t) refl (λ i m. two_evaluated cw (core.levels cw m) d fs t v held i)
        (gives_keeps (Exports []) (Related cw all en) n (v, b) (v ∷ []) s t (record { names = []; is = refl; bound = tt }) same)

two_definition : KeepsDefinition repeating (function f_name 1 (x_name ∷ []) (var x_name ∷ [])) (core_function f_name 1 (Numbered 0 ∷ []) two_body)
two_definition = record {
  name = refl;
  arity = refl;
  parameters = refl;
  keeps = function_keeps repeating here (trees (var x_name ∷ [])) (x_name ∷ []) (var x_name ∷ []) two_body (refl, tt) ((λ h. h), tt) two_keeps;
}

whole : KeepsFunctions repeating identity two_numbers
whole = record {
  functions = core_function f_name 1 (Numbered 0 ∷ []) two_body ∷ [];
  information = core_function module_info_name 0 [] (core_call erlang_name get_module_info_name (core_atom m_name ∷ []));
  item = core_function module_info_name 1 (Numbered 0 ∷ []) (core_call erlang_name get_module_info_name (core_atom m_name ∷ core_var 0 ∷ []));
  definitions = refl;
  keep = (two_definition, tt);
  is_information = record { erlang = erlang_name; get_module_info = get_module_info_name; erlang_text = refl; get_module_info_text = refl; name_text = refl; arity = refl; parameters = refl; body = refl };
  is_item = record { erlang = erlang_name; get_module_info = get_module_info_name; erlang_text = refl; get_module_info_text = refl; name_text = refl; arity = refl; parameters = refl; body = refl };
}

not_info : text repeating f_name ≢ codes "module_info"
not_info p = absurd cc

identity_built : IsBuilt repeating identity
identity_built = record {
  forms = (tt, (tt, tt));
  one_export = refl;
  functions = ((λ h. h), tt);
  exports = ((λ h. h), tt);
  exported = (inl (inl refl), tt);
  bodies = (((λ h. not_info h.0), (refl, (tt, tt), omega arith, (tt, tt), tt)), tt);
}

pub two_numbers_keep : KeepsMeaning repeating identity two_numbers
two_numbers_keep = module_keeps repeating identity two_numbers whole identity_built (refl, tt)
