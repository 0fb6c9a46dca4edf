-- What is found, from what a read tells.
use Rattle.std.proofs.Common.{◌≡◌, ◌<◌, ◌≤◌, ◌++◌, inl, inr, ℕ, zero, suc, List, [], ◌∷◌, length, sym, ◌∙◌, ap, subst, arith, Option, None, Some, Ok, Err}
use Rattle.ef_base.specs.declared.fault.Fault.{Fault}
use Rattle.ef_io.specs.Sources.{Files, Reads, KeepsRead}
use Rattle.ef_io.specs.declared.sources.ReadRefusal.TheVariants.{TooLarge}
use Rattle.ef_front.specs.declared.compiling.Compiled.{Compiled}
use Rattle.ef_front.specs.declared.compiling.Compiled.TheVariants.{Module, Faulty}
use Rattle.ef_base.specs.NamedFaults as fault
use Rattle.ef_front.specs.Input.{limit, Finds, AreFaults}
use Rattle.ef_front.specs.Compiled.{IsCompiled, IsCompiledText}

found : (files : Option Files) (path old source : List ℕ) → old ≡ [] → Reads files path limit old source (Ok tt) → Finds files path (Some source)
found None path old source none read = tt
found (Some files) path old source none read = read.1 ∙ ap Some (sym (read.3 ∙ ap (λ t. t ++ read.0) none))

pub small : (old source : List ℕ) → old ≡ [] → KeepsRead limit old source (Ok tt) → length source ≤ limit
small old source none kept = subst (λ t. length t ≤ limit) (sym (kept.2 ∙ ap (λ t. t ++ kept.0) none)) kept.1

-- a file that was read, after nothing
pub compiled_file : (files : Option Files) (path old source : List ℕ) (result : Compiled) → old ≡ [] → Reads files path limit old source (Ok tt) → KeepsRead limit old source (Ok tt) → IsCompiledText source result → IsCompiled files path result
compiled_file files path old source (Module l) none read kept is = (
  record {
    source = source;
    found = found files path old source none read;
    small = small old source none kept;
    faultless = is.0;
    fits = is.1;
  },
  is.2,
  is.3,
)
compiled_file files path old source (Faulty faults) none read kept is = (
  record {
    content = Some source;
    found = found files path old source none read;
    are = inr (small old source none kept, is.0);
  },
  is.1,
)

-- a text of more than so many bytes
long_text : (n : ℕ) → (text : List ℕ) × (n < length text)
long_text zero = (0 ∷ [], omega arith)
long_text (suc n) = let shorter = long_text n in (0 ∷ shorter.0, omega (arith, shorter.1))

-- a file past the limit
pub large_file : (files : Option Files) (path old source : List ℕ) (faults : List Fault) → Reads files path limit old source (Err TooLarge) → faults ≡ fault.no_module ∷ fault.file_too_large ∷ [] → AreFaults files path faults
large_file None path old source faults read are =
    let large = long_text limit in record { content = Some large.0; found = tt; are = inl (large.1, are) }
large_file (Some files) path old source faults read are = record { content = Some read.0; found = read.1; are = inl (read.2, are) }
