-- Monitors among the instructions from a place on, and the characters of a name.
use Rattle.std.proofs.Common.{◌≡◌, ◌<◌, ◌≤◌, ℕ, zero, suc, ◌+◌, ◌-◌, Bool, true, false, List, [], ◌∷◌, length, refl, arith}
use Rattle.std.specs.Prelude.{Ok, Err, is_some}
use Rattle.std.specs.Char.Utf16.{utf16_chars}
use Rattle.std.specs.List.{list_any, list_all}
use Rattle.std.proofs.lemmas.Bool.{le-leb}
use Rattle.mvm_insn.specs.Insns.{insn}
use Rattle.mvm_insn.specs.declared.fault.InsnFault.{InsnFault}
use Rattle.mvm_insn.specs.declared.insn.At.{At}
use Rattle.mvm_check.proofs.Steps.{starts-step}
use Rattle.mvm_check.specs.Starts.{starts_from}
use Rattle.mvm.specs.Alone.{is_monitor, is_monitor_at, is_short_text}

abbrev pub monitors_from : ℕ → List ℕ → ℕ → Bool
monitors_from most code pc = list_any (λ pc. is_monitor_at (insn code pc)) (starts_from most code pc)

pub monitors_next : (most i pc : ℕ) (code : List ℕ) (at : At) → i < most → pc < length code → insn code pc ≡ Ok at → is_monitor at.insn ≡ false
    → monitors_from (most - i) code pc ≡ monitors_from (most - (i + 1)) code at.next
monitors_next most i pc code at h k found none = rw (starts-step most i pc code h k, found, none) refl

-- behind a place where no instruction stands there is none
nothing_behind : (most : ℕ) (code : List ℕ) → starts_from most code (length code) ≡ []
nothing_behind zero code = refl
nothing_behind (suc most) code = grind arith

pub monitors_end : (most i pc : ℕ) (code : List ℕ) (fault : InsnFault) → i < most → pc < length code → insn code pc ≡ Err fault → monitors_from (most - i) code pc ≡ false
monitors_end most i pc code fault h k none = rw (starts-step most i pc code h k, none, nothing_behind (most - (i + 1)) code) refl

-- ---- characters

pub no_characters : (units : List ℕ) → length units ≡ 0 → utf16_chars units ≡ []
unfolding utf16_chars
no_characters [] none = refl
no_characters (unit ∷ units) none = absurd (omega arith)

pub short_text : (units : List ℕ) → list_all is_some (utf16_chars units) ≡ true → length (utf16_chars units) ≤ 255 → is_short_text units ≡ true
short_text units all few =
    let within = le-leb (length (utf16_chars units)) 255 few in
    rw (all, within) refl
