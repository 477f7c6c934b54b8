-- An isolate in memory as contracts see it.
use Rattle.mvm_isolate.specs.Numbered.{Numbered}
use Rattle.mvm_isolate.specs.declared.isolate.Isolate.TheInside.{Inside}

abbrev pub held : Inside → Numbered
held i = record { env = i.env; mirrors = i.mirrors; arrays = i.arrays; files = i.files.value.files }
