-- The report of a run.
use Rattle.std.specs.Prelude.{ℕ, ◌+◌, ◌-◌, List, [], ◌∷◌, ◌++◌, length, Option, Some, None, ◌==◌, if◌then◌else◌, slice_get, codes, decimal}
use Rattle.std.specs.List.{flat_map}
use Rattle.std.specs.Fmt.{signed_decimal}
use Rattle.mvm.specs.Texts.{shown, line}
use Rattle.mvm.specs.Status.{run_status}
use Rattle.mvm.specs.declared.outcome.Outcome.{Outcome}
use Rattle.mvm_history.specs.declared.end.End.{End}
use Rattle.mvm_history.specs.declared.end.End.TheVariants.{Exit, Limit, Halted, Stalled, NeverStarted}
use Rattle.mvm_history.specs.declared.end.LimitKind.{LimitKind}
use Rattle.mvm_history.specs.declared.end.LimitKind.TheVariants.{Steps, Threads, Output, Log, Clock, Messages}
use Rattle.mvm_interp.specs.declared.block.Uncaught.{Uncaught}
use Rattle.mvm.specs.declared.outcome.Block.{Block}

abbrev pub limit_name : LimitKind → List ℕ
limit_name Steps = codes "steps"
limit_name Threads = codes "threads"
limit_name Output = codes "output"
limit_name Log = codes "log"
limit_name Clock = codes "clock"
limit_name Messages = codes "messages"

abbrev pub end_text : End → List ℕ
end_text (Exit code) = codes "exit " ++ signed_decimal code
end_text (Limit kind) = codes "limit " ++ limit_name kind
end_text (Halted by status) = codes "halted by " ++ decimal by ++ codes " status " ++ signed_decimal status
end_text Stalled = codes "stalled"
end_text NeverStarted = codes "never started"

-- nothing, or what stands between the class of an exception and the end of its line
abbrev pub message_text : Option (List ℕ) → List ℕ
message_text None = []
message_text (Some message) = codes ": " ++ shown message

abbrev pub uncaught_text : Uncaught → List ℕ
uncaught_text uncaught = line (codes "uncaught " ++ decimal uncaught.thread ++ codes " " ++ shown uncaught.class ++ message_text uncaught.message)

-- what ends the last line of an output whose last byte is this
abbrev pub line_end : Option ℕ → List ℕ
line_end None = []
line_end (Some byte) = if byte == 10 then [] else codes "\n"

-- the output, whose last line is ended if it is not
abbrev pub closed : List ℕ → List ℕ
closed output = output ++ line_end (slice_get output (length output - 1))

-- the lines of an isolate
unfoldable pub block_text : ℕ → Block → List ℕ
block_text number block =
    line (codes "isolate " ++ decimal number ++ codes " " ++ shown block.main)
    ++ line (codes "end " ++ end_text block.end)
    ++ flat_map uncaught_text block.uncaught
    ++ line (codes "output " ++ decimal (length block.output))
    ++ closed block.output

-- the lines of the isolates, numbered from this number on
abbrev pub block_texts : ℕ → List Block → List ℕ
block_texts number [] = []
block_texts number (block ∷ blocks) = block_text number block ++ block_texts (number + 1) blocks

-- the whole report
unfoldable pub report_text : Outcome → List ℕ
report_text outcome = block_texts 0 outcome.isolates ++ line (codes "done " ++ decimal (run_status outcome))
