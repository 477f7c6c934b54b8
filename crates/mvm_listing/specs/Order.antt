-- Where lines may stand: the version, the constant pool, the class, its superinterfaces, its fields, its methods, each with its code.
use Rattle.std.specs.Prelude.{Bool, true, false, Option, Some, None}
use Rattle.mvm_listing.specs.declared.phase.Phase.{Phase}
use Rattle.mvm_listing.specs.declared.phase.Phase.TheVariants as phases
use Rattle.mvm_statement.specs.declared.statement.Statement.{Statement}
use Rattle.mvm_statement.specs.declared.statement.Statement.TheVariants.{Version, Entry, Class, Implements, Field, Method, Code, Label, Instruction, Byte, Catch, End}

-- where a line leads to, if it may stand here
abbrev pub next : Phase → Statement → Option Phase
next phases.Start (Version minor major) = Some phases.Pool
next phases.Start (Entry n value) = Some phases.Pool
next phases.Pool (Entry n value) = Some phases.Pool
next phases.Start (Class flags this super) = Some phases.Class
next phases.Pool (Class flags this super) = Some phases.Class
next phases.Class (Implements interface) = Some phases.Class
next phases.Class (Field flags name desc constant) = Some phases.Fields
next phases.Fields (Field flags name desc constant) = Some phases.Fields
next phases.Class (Method flags name desc) = Some phases.Method
next phases.Fields (Method flags name desc) = Some phases.Method
next phases.Method (Method flags name desc) = Some phases.Method
next phases.Methods (Method flags name desc) = Some phases.Method
next phases.Method (Code max_stack max_locals) = Some phases.Code
next phases.Code (Label name) = Some phases.Code
next phases.Code (Instruction line) = Some phases.Code
next phases.Code (Byte n) = Some phases.Code
next phases.Code (Catch start end handler class) = Some phases.Code
next phases.Code End = Some phases.Methods
next _ _ = None

-- a text may end here
abbrev pub is_whole : Phase → Bool
is_whole phases.Class = true
is_whole phases.Fields = true
is_whole phases.Method = true
is_whole phases.Methods = true
is_whole _ = false
