use Rattle.mvm_block.proofs.Tests.{near_rows}
use Rattle.mvm_block.proofs.encode.push_line.Goals as goal

pub push_lookup-requires-clause-targets : goal.push_lookup-requires-clause-targets
push_lookup-requires-clause-targets c =
    near_rows c.args.labels.now c.args.at c.args.line.now c.in-Lookup.op c.in-Lookup.rows c.in-Lookup.otherwise c.as_slice.result.now c.in-Lookup.is c.as_slice.ensures c.requires.targets
