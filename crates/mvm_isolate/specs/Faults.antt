-- What is thrown where a class can't be loaded, linked, resolved or selected from (JVM Specification 5.3, 5.4).
use Rattle.std.specs.Prelude.{Result, Ok, Err}
use Rattle.mvm_layout.specs.declared.fault.ClassFault.{ClassFault}
use Rattle.mvm_layout.specs.declared.fault.ClassFault.TheVariants.{Version}
use Rattle.mvm_native.specs.declared.out.Thrown.{Thrown}
use Rattle.mvm_native.specs.declared.out.Thrown.TheVariants as thrown
use Rattle.mvm_set.specs.declared.fault.LinkFault.{LinkFault}
use Rattle.mvm_set.specs.declared.fault.LinkFault.TheVariants as link
use Rattle.mvm_table.specs.declared.fault.LoadFault.{LoadFault}
use Rattle.mvm_table.specs.declared.fault.LoadFault.TheVariants as load
use Rattle.mvm_isolate.specs.declared.stop.Stop.{Stop}
use Rattle.mvm_isolate.specs.declared.stop.Stop.TheVariants.{Throw, OutOfMemory}

-- bytes that are no class file (5.3.5)
abbrev pub thrown_by_format : ClassFault → Thrown
thrown_by_format (Version major) = thrown.UnsupportedClassVersionError
thrown_by_format _ = thrown.ClassFormatError

abbrev pub thrown_by_link : LinkFault → Thrown
thrown_by_link link.NoField = thrown.NoSuchFieldError
thrown_by_link link.NoMethod = thrown.NoSuchMethodError
thrown_by_link link.Access = thrown.IllegalAccessError
thrown_by_link link.Change = thrown.IncompatibleClassChangeError
thrown_by_link link.Abstract = thrown.AbstractMethodError

-- why an attempt stops that looked up what has this fault; the machine's own want of memory is no fault of a program
unfoldable pub stopped_by : LoadFault → Stop
stopped_by load.NoClass = Throw thrown.NoClassDefFoundError
stopped_by load.WrongName = Throw thrown.NoClassDefFoundError
stopped_by (load.Format fault) = Throw (thrown_by_format fault)
stopped_by load.Circular = Throw thrown.ClassCircularityError
stopped_by load.Super = Throw thrown.IncompatibleClassChangeError
stopped_by (load.Link fault) = Throw (thrown_by_link fault)
stopped_by (load.Check fault) = Throw thrown.VerifyError
stopped_by load.OutOfMemory = OutOfMemory

-- what was looked up, or why the attempt stops
abbrev pub looked_up : {A : Type 0} → Result A LoadFault → Result A Stop
looked_up (Ok value) = Ok value
looked_up (Err fault) = Err (stopped_by fault)

-- what was selected, or what is thrown
abbrev pub selected_or : {A : Type 0} → Result A LinkFault → Result A Stop
selected_or (Ok value) = Ok value
selected_or (Err fault) = Err (Throw (thrown_by_link fault))
