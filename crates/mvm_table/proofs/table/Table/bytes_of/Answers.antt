use Rattle.std.proofs.Common.{ap, sym, ◌∙◌}
use Rattle.mvm_table.specs.Contents.{Contents}
use Rattle.mvm_table.specs.Files.{files_in, bytes_of}
use Rattle.mvm_table.proofs.BytesByPlace.{bytes_in_table}
use Rattle.mvm_table.proofs.table.Table.bytes_of.Goals as goal

pub returns-clause-value : goal.returns-clause-value
returns-clause-value c =
    c.bytes_in.ensures.value ∙ sym (bytes_in_table c.self.inside.sources c.self.inside.sets c.args.set c.args.name.now)
    ∙ ap (λ (table : Contents). bytes_of c.args.name.now (files_in c.args.set table.files)) c.self.view_is
