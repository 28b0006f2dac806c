-- The head with the phase before a call written into it.
use Rattle.std.proofs.Common.{◌≡◌, ℕ, List, [], ◌∷◌, length, slice_set, refl, arith}
use Rattle.capi.specs.Back.{head_back}

pub phase_written : (head : List ℕ) (phase : ℕ) → length head ≡ 6 → slice_set head 1 phase ≡ head_back 0 head phase
phase_written (a ∷ b ∷ c ∷ d ∷ e ∷ f ∷ []) phase h = refl
phase_written (a ∷ b ∷ c ∷ d ∷ e ∷ f ∷ g ∷ _) phase h = absurd (omega arith)
phase_written (a ∷ b ∷ c ∷ d ∷ e ∷ []) phase h = absurd (omega arith)
phase_written (a ∷ b ∷ c ∷ d ∷ []) phase h = absurd (omega arith)
phase_written (a ∷ b ∷ c ∷ []) phase h = absurd (omega arith)
phase_written (a ∷ b ∷ []) phase h = absurd (omega arith)
phase_written (a ∷ []) phase h = absurd (omega arith)
phase_written [] phase h = absurd (omega arith)
