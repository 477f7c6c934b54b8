-- The code of the last method.
use Rattle.std.proofs.Common.{◌≡◌, ℕ, zero, suc, ◌+◌, List, [], ◌∷◌, length, Some, ap, arith, get_or, set}
use Rattle.mvm_layout.specs.declared.parts.Code.{Code}
use Rattle.mvm_layout.specs.declared.parts.Member.{Member}
use Rattle.mvm_listing.specs.Assembly.{with_code}

abbrev coded : Code → Member → Member
coded code m = record m { code = Some code }

pub last_coded : (ms : List Member) (at : ℕ) (m : Member) (code : Code) → at + 1 ≡ length ms → m ≡ get_or ms at m → set ms at (coded code m) ≡ with_code ms code
last_coded [] at m code h e = absurd (omega arith)
last_coded (n ∷ []) zero m code h e = ap (λ x. coded code x ∷ []) e
last_coded (n ∷ []) (suc at) m code h e = absurd (omega arith)
last_coded (n ∷ (o ∷ ms)) zero m code h e = absurd (omega arith)
last_coded (n ∷ (o ∷ ms)) (suc at) m code h e = ap (λ x. n ∷ x) (last_coded (o ∷ ms) at m code (omega arith) e)
