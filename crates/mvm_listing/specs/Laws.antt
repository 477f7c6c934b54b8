-- What holds of every class file and its text.
use Rattle.std.specs.Prelude.{◌≡◌, ◌<◌, ℕ, ◌-◌, ◌%◌, ◌^◌, List, length, take, drop, Bool, true, ◌==◌, bytes_eq, Ok}
use Rattle.mvm_base.specs.Bytes.{AreBytes}
use Rattle.mvm_layout.specs.declared.parts.Parts.{Parts}
use Rattle.mvm_insn.specs.Insns.{insn as read}
use Rattle.mvm_insn.specs.declared.insn.At.{At}
use Rattle.mvm_insn.specs.declared.insn.Insn.{Insn}
use Rattle.mvm_insn.specs.declared.insn.Insn.TheVariants as insn
use Rattle.mvm_classfile.specs.Reading.{IsClassFile}
use Rattle.mvm_listing.specs.Assembly.{assembled, class_of}
use Rattle.mvm_listing.specs.Encoding.{padding}
use Rattle.mvm_listing.specs.Disassembly.{gives, line_of, disassembly}

-- the text of a class file is assembled to its parts, and they are those of the class file of the text
abbrev pub PartsAgain : Type 0
PartsAgain = (parts : Parts) → IsClassFile parts → assembled (disassembly parts) ≡ Ok parts

abbrev pub ClassAgain : Type 0
ClassAgain = (parts : Parts) → IsClassFile parts → class_of (disassembly parts) ≡ Ok parts

-- ---- instructions by their mnemonics

-- the bytes of the instruction that stands at a place
abbrev pub bytes_of : List ℕ → ℕ → At → List ℕ
bytes_of code pc x = take (x.next - pc) (drop pc code)

-- the padding of a switch is zero, and so is the last byte of an invokeinterface
abbrev pub is_usual : ℕ → Insn → List ℕ → Bool
is_usual pc (insn.Choice op rows) bytes = bytes_eq (take (3 - pc % 4) (drop 1 bytes)) (padding pc)
is_usual pc (insn.Interface index count last) bytes = last == 0
is_usual pc _ bytes = true

-- what is read of bytes in their usual spelling has a line of its own, which is assembled to them
abbrev pub MnemonicLaw : Type 0
MnemonicLaw = (code : List ℕ) (pc : ℕ) (x : At) → AreBytes code → length code < 2 ^ 32 → read code pc ≡ Ok x → is_usual pc x.insn (bytes_of code pc x) ≡ true
    → gives pc (line_of x.insn) (bytes_of code pc x) ≡ true

-- and its line is assembled to them only in that spelling
abbrev pub UsualLaw : Type 0
UsualLaw = (code : List ℕ) (pc : ℕ) (x : At) → AreBytes code → length code < 2 ^ 32 → read code pc ≡ Ok x
    → gives pc (line_of x.insn) (bytes_of code pc x) ≡ is_usual pc x.insn (bytes_of code pc x)
