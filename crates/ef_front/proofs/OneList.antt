-- The faults of a file are one list.
use Rattle.std.proofs.Common.{◌≡◌, ◌<◌, ◌≤◌, ◌⊎◌, inl, inr, ℕ, List, [], ◌∷◌, length, sym, ◌∙◌, subst, arith, Option, None, Some}
use Rattle.ef_base.specs.declared.fault.Fault.{Fault}
use Rattle.ef_io.specs.Sources.{Files}
use Rattle.ef_base.specs.NamedFaults as fault
use Rattle.ef_front.specs.Source.{HasFaults}
use Rattle.ef_front.specs.Input.{limit, HasFaultsAt, AreFaults}
use Rattle.ef_front.proofs.OneSource.{one_faults}

abbrev IsOfSize : List ℕ → List Fault → Type 0
IsOfSize source faults =
    ((limit < length source) × (faults ≡ fault.no_module ∷ fault.file_too_large ∷ [])) ⊎ ((length source ≤ limit) × HasFaults source faults)

of_size : (source : List ℕ) (xs ys : List Fault) → IsOfSize source xs → IsOfSize source ys → xs ≡ ys
of_size source xs ys (inl a) (inl b) = a.1 ∙ sym b.1
of_size source xs ys (inl a) (inr b) = absurd (omega (arith, a.0, b.0))
of_size source xs ys (inr a) (inl b) = absurd (omega (arith, a.0, b.0))
of_size source xs ys (inr a) (inr b) = one_faults source xs ys a.1 b.1

of_content : (path : List ℕ) (content : Option (List ℕ)) (xs ys : List Fault) → HasFaultsAt path content xs → HasFaultsAt path content ys → xs ≡ ys
of_content path None xs ys a b = a ∙ sym b
of_content path (Some source) xs ys a b = of_size source xs ys a b

pub one_list : (files : Files) (path : List ℕ) (xs ys : List Fault) → AreFaults (Some files) path xs → AreFaults (Some files) path ys → xs ≡ ys
one_list files path xs ys a b =
    of_content path b.content xs ys (subst (λ content. HasFaultsAt path content xs) (sym a.found ∙ b.found) a.are) b.are
