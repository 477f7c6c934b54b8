-- The ranges of the limits of an isolate, and the limits where none are named.
use Rattle.std.specs.Prelude.{ℕ, Bool, ◌&&◌, nat_le}
use Rattle.mvm_history.specs.declared.limits.Limits.{Limits}
use Rattle.mvm_history.specs.declared.limits.TheConstants as most
use Rattle.mvm_history.specs.declared.limits.TheConstants.{DEFAULT_STEPS, DEFAULT_WORDS, DEFAULT_THREADS, DEFAULT_OUTPUT, DEFAULT_LOG}

-- a limit is in a range, both ends of which belong to it
abbrev pub is_between : ℕ → ℕ → ℕ → Bool
is_between least most limit = nat_le least limit && nat_le limit most

-- each limit is in its range
abbrev pub allowed : Limits → Bool
allowed limits =
    is_between 1 most.MOST_STEPS limits.steps && is_between 0 most.MOST_WORDS limits.heap && is_between 1 most.FRAMES limits.frames
    && is_between 1 most.MOST_THREADS limits.threads && is_between 0 most.MOST_OUTPUT limits.output && is_between 1 most.MOST_LOG limits.log
    && is_between 1 most.CLOCK limits.clock && is_between 1 most.MESSAGE_BYTES limits.messages

-- the limits where none are named
abbrev pub defaults : Limits
defaults = record {
  steps = DEFAULT_STEPS;
  heap = DEFAULT_WORDS;
  frames = most.FRAMES;
  threads = DEFAULT_THREADS;
  output = DEFAULT_OUTPUT;
  log = DEFAULT_LOG;
  clock = most.CLOCK;
  messages = most.MESSAGE_BYTES;
}
