use Rattle.std.proofs.Common.{sym, ◌∙◌, rules}
use Rattle.mvm_classes.proofs.EntryMore.{entry_more}
use Rattle.mvm_classes.proofs.entries.tell_entries.Goals.{then-not-branch, else-not-branch}
use Rattle.mvm_classes.proofs.entries.tell_entries.Goals as goal

pub loop-index-preserved : goal.loop-index-preserved
loop-index-preserved g c =
    elim c.if-not-branch.branch [
      | then-not-branch w ↦ λ e. absurd (let no = sym w.faultless-is ∙ e in cc)
      | else-not-branch w ↦ λ e. entry_more c.args.table.now.files c.args.class.now c.loop-index.index (c.loop-index.invariant (sym w.faultless-is ∙ e)) (c.tell_entry.ensures (search rules))
    ]
