-- Which class files run alone, as the one isolate of a run: until an isolate has turns, it has one thread, and enters no monitor.
use Rattle.std.specs.Prelude.{ℕ, List, length, take, Bool, false, not, ◌&&◌, ◌||◌, ◌==◌, nat_le, Option, Some, None, Result, Ok, Err, is_some, codes}
use Rattle.std.specs.Char.Utf16.{utf16_chars}
use Rattle.std.specs.List.{list_all, list_any}
use Rattle.std.specs.Str.{bytes_eq}
use Rattle.mvm_base.specs.ClassName.{is_binary_name}
use Rattle.mvm_layout.specs.Flags.{has_flag}
use Rattle.mvm_layout.specs.Pool.{text, class_name, is_text}
use Rattle.mvm_layout.specs.declared.flags.TheConstants as flag
use Rattle.mvm_layout.specs.declared.parts.Code.{Code}
use Rattle.mvm_layout.specs.declared.parts.Item.{Item}
use Rattle.mvm_layout.specs.declared.parts.Item.TheVariants as item
use Rattle.mvm_layout.specs.declared.parts.Member.{Member}
use Rattle.mvm_layout.specs.declared.parts.Parts.{Parts}
use Rattle.mvm_insn.specs.Insns.{insn}
use Rattle.mvm_insn.specs.declared.fault.InsnFault.{InsnFault}
use Rattle.mvm_insn.specs.declared.insn.At.{At}
use Rattle.mvm_insn.specs.declared.insn.Insn.{Insn}
use Rattle.mvm_insn.specs.declared.insn.Insn.TheVariants.{Plain}
use Rattle.mvm_insn.specs.declared.opcodes.TheConstants as jvm
use Rattle.mvm_check.specs.Starts.{starts_of}

-- ---- the name

-- so many characters a name may have
abbrev pub MOST_CHARACTERS : ℕ
MOST_CHARACTERS = 255

-- it is a text of characters, and has not more than that
abbrev pub is_short_text : List ℕ → Bool
is_short_text name = list_all is_some (utf16_chars name) && nat_le (length (utf16_chars name)) MOST_CHARACTERS

abbrev pub begins_with : List ℕ → List ℕ → Bool
begins_with beginning name = bytes_eq (take (length beginning) name) beginning

-- classes of these packages are the machine's own
abbrev pub is_reserved : List ℕ → Bool
is_reserved name = begins_with (codes "java/") name || begins_with (codes "javax/") name || begins_with (codes "mvm/") name

-- the name of a class that a user can have (JVM Specification 4.2.1)
unfoldable pub is_user_name : List ℕ → Bool
is_user_name name = is_binary_name name && is_short_text name && not (is_reserved name)

abbrev pub has_user_name : Option (List ℕ) → Bool
has_user_name (Some name) = is_user_name name
has_user_name None = false

-- ---- monitors (JVM Specification 2.11.10)

abbrev pub is_monitor : Insn → Bool
is_monitor (Plain op) = op == jvm.MONITORENTER || op == jvm.MONITOREXIT
is_monitor insn = false

abbrev pub is_monitor_at : Result At InsnFault → Bool
is_monitor_at (Ok at) = is_monitor at.insn
is_monitor_at (Err fault) = false

-- an instruction of the code enters or exits a monitor
unfoldable pub has_monitors : List ℕ → Bool
has_monitors code = list_any (λ pc. is_monitor_at (insn code pc)) (starts_of code)

abbrev pub has_monitors_in : Option Code → Bool
has_monitors_in (Some code) = has_monitors code.bytes
has_monitors_in None = false

-- the method is synchronized, or its code enters or exits a monitor
abbrev pub locks : Member → Bool
locks method = has_flag flag.SYNCHRONIZED method.flags || has_monitors_in method.code

-- ---- threads

abbrev pub is_wait : Option (List ℕ) → Bool
is_wait name = is_text (codes "wait") name || is_text (codes "notify") name || is_text (codes "notifyAll") name

-- the entry names the class of threads, or a method by which threads wait
abbrev pub is_of_threads : List Item → Item → Bool
is_of_threads pool (item.Class name) = is_text (codes "java/lang/Thread") (text pool name)
is_of_threads pool (item.NameAndType name desc) = is_wait (text pool name)
is_of_threads pool entry = false

-- ---- the class file

unfoldable pub runs_alone : Parts → Bool
runs_alone parts =
    has_user_name (class_name parts.pool parts.this_class)
    && not (list_any locks parts.methods)
    && not (list_any (is_of_threads parts.pool) parts.pool)
