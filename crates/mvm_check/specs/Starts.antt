-- The places of a method's code at which an instruction begins (JVM Specification 4.9.1): as a set, by the standard's own words, and
-- as the list of these places from the first to the last, in whose order the faults are told.
use Rattle.std.specs.Prelude.{◌≡◌, ◌<◌, ℕ, zero, suc, ℤ, pos, negsuc, List, [], ◌∷◌, length, Bool, false, nat_lt, ◌==◌, if◌then◌else◌, Result, Ok, Err}
use Rattle.std.specs.List.{list_any}
use Rattle.mvm_insn.specs.Insns.{insn}
use Rattle.mvm_insn.specs.declared.fault.InsnFault.{InsnFault}
use Rattle.mvm_insn.specs.declared.insn.At.{At}

-- The first opcode stands at place 0. The place of each next opcode is that of the one before it and its length together, unless the
-- code ends there.
pub data IsStart (code : List ℕ) : ℕ → Type 0 where
  first : 0 < length code → IsStart code 0
  next : (pc : ℕ) (x : At) → IsStart code pc → insn code pc ≡ Ok x → x.next < length code → IsStart code x.next

-- ---- the list

-- the place behind an instruction; behind a place where none stands, nothing is cut any more: this is the end
abbrev pub behind : ℕ → Result At InsnFault → ℕ
behind end (Ok x) = x.next
behind end (Err fault) = end

-- The starts from a place on: the place itself, if it is inside the code, and those from the place behind its instruction on. Each
-- instruction takes a byte at least: most is how many bytes there are.
abbrev pub starts_from : ℕ → List ℕ → ℕ → List ℕ
starts_from zero code pc = []
starts_from (suc most) code pc =
    if nat_lt pc (length code) then pc ∷ starts_from most code (behind (length code) (insn code pc)) else []

unfoldable pub starts_of : List ℕ → List ℕ
starts_of code = starts_from (length code) code 0

-- an instruction begins at the place
abbrev pub is_start : List ℕ → ℕ → Bool
is_start starts place = list_any (λ start. start == place) starts

-- the same of a target, which may lie outside
abbrev pub begins : List ℕ → ℤ → Bool
begins starts (pos place) = is_start starts place
begins starts (negsuc n) = false
