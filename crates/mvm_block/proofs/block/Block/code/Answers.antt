use Rattle.mvm_block.proofs.Closing.{pieces_ready, table_ready}
use Rattle.mvm_block.proofs.block.Block.code.Goals as goal

pub bytes_made-requires : goal.bytes_made-requires
bytes_made-requires c = pieces_ready _ c.args.self.now c.as_slice.result.now c.self.view_is c.as_slice.ensures c.self.invariant c.requires.closed c.requires.fits

pub rows_made-requires : goal.rows_made-requires
rows_made-requires c = table_ready _ c.args.self.now c.as_slice-2.result.now c.self.view_is c.as_slice-2.ensures c.requires.closed c.requires.fits
