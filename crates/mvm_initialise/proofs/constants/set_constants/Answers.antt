use Rattle.std.proofs.Common.{arith}
use Rattle.mvm_initialise.proofs.Setting.{setting_ends, setting_fits, setting_more, setting_short, setting_slot}
use Rattle.mvm_initialise.proofs.constants.set_constants.Goals as goal

pub loop-place-preserved : goal.loop-place-preserved
loop-place-preserved c =
    setting_more c.args.isolate.now c.loop-place.isolate c.args.mirror c.args.class.now c.as_slice-fields.result.now c.loop-place.place c.index-fields-place.result (omega arith) c.index-fields-place.is c.loop-place.invariant
    c.set_field.new.isolate c.requires.class c.set_field.ensures.does c.set_field.ensures.fewer c.set_field.ensures.links c.set_field.ensures.grows

pub set_field-requires-clause-slot : goal.set_field-requires-clause-slot
set_field-requires-clause-slot c = setting_slot c.args.isolate.now c.loop-place.isolate c.args.mirror c.args.class.now c.as_slice-fields.result.now c.loop-place.place c.index-fields-place.result (omega arith) c.index-fields-place.is c.loop-place.invariant

pub set_field-requires-clause-fits : goal.set_field-requires-clause-fits
set_field-requires-clause-fits c =
    setting_fits c.args.isolate.now c.loop-place.isolate c.args.mirror c.args.class.now c.as_slice-fields.result.now c.loop-place.place c.index-fields-place.result (omega arith) c.index-fields-place.is c.loop-place.invariant
    c.requires.class c.requires.fits

pub set_field-requires-clause-short : goal.set_field-requires-clause-short
set_field-requires-clause-short c = setting_short c.args.isolate.now c.loop-place.isolate c.args.mirror c.args.class.now c.as_slice-fields.result.now c.loop-place.place c.index-fields-place.result (omega arith) c.index-fields-place.is c.loop-place.invariant

pub returns-clause-does : goal.returns-clause-does
returns-clause-does c = setting_ends c.args.isolate.now c.loop-place.isolate c.args.mirror c.args.class.now c.as_slice-fields.result.now c.loop-place.place (omega arith) c.loop-place.invariant
