-- How the report writes lines and transactions.
use Rattle.std.specs.Prelude.{ℕ, List, [], ◌∷◌, ◌++◌, Option, None, unwrap_or}
use Rattle.std.specs.List.{join_with_byte}
use Rattle.std.specs.Fmt.{decimal}
use Rattle.sd_base.specs.declared.ids.TxnId.{TxnId}

-- words with a space between each two, and an LF behind the last
abbrev pub line_of : List (List ℕ) → List ℕ
line_of words = join_with_byte 32 words ++ 10 ∷ []

-- a transaction by its numbers: instance, epoch and number
abbrev pub txn_text : TxnId → List ℕ
txn_text t = decimal t.inst ++ 46 ∷ decimal t.epoch ++ 46 ∷ decimal t.seq

-- the names of transactions, where they have one
abbrev pub NamesOf : Type 0
NamesOf = TxnId → Option (List ℕ)

abbrev pub no_names : NamesOf
no_names t = None

-- a transaction by its name, else by its numbers
abbrev pub spelled : NamesOf → TxnId → List ℕ
spelled names t = unwrap_or (names t) (txn_text t)
