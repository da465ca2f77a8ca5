-- What the force of a log leaves of a complex, and which device calls it makes.
use Rattle.std.specs.Prelude.{◌≡◌, ◌≢◌, ℕ, cond}
use Rattle.sd_log.specs.Logs.{has_tail}
use Rattle.sd_state.specs.Parts.{Parts, is_loose, log_at}

-- But for logs, and what they owe, all is as it was.
abbrev pub OnlyLogs : Parts → Parts → Type 0
OnlyLogs old new = new ≡ record old { logs = new.logs; owed = new.owed }

-- the logs of all but instance i are as they were
abbrev pub OthersKeepLogs : ℕ → Parts → Parts → Type 0
OthersKeepLogs i old new = (k : ℕ) → k ≢ i → log_at new k ≡ log_at old k

-- the writes and syncs of a force of log i that is done: four where the log is settled and has a tail, else none
abbrev pub force_calls : ℕ → Parts → ℕ
force_calls i c = cond (is_loose c i) 0 (cond (has_tail (log_at c i)) 4 0)
