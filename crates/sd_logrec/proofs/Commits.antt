-- Whether a record is a Commit is told by its first byte. It serves the goals of take.rt.
use Rattle.std.proofs.Common.{◌≡◌, ℕ, false, List, [], ◌∷◌, ◌++◌, ap, refl}
use Rattle.std.specs.Prelude.{Some}
use Rattle.sd_logrec.specs.Reading.{byte_at}
use Rattle.sd_base.specs.declared.ids.TxnId.{TxnId}
use Rattle.sd_logrec.specs.declared.record.Record.{Record}
use Rattle.sd_logrec.specs.declared.record.Record.TheVariants as records
use Rattle.sd_logrec.specs.Spelling.{spelling}
use Rattle.sd_logrec.specs.View.{is_commit_of}

pub is_no_commit : (r : Record) (behind : List ℕ) (kind : ℕ) (rest : List ℕ) (t : TxnId) → kind ∷ rest ≡ spelling r ++ behind → (kind ≡ 4 → ⊥) → is_commit_of t r ≡ false
is_no_commit (records.Start lsn epoch) behind kind rest t e differs = refl
is_no_commit (records.Update lsn txn prev page slot capacity before after) behind kind rest t e differs = refl
is_no_commit (records.Clr lsn txn prev undo_next page slot after) behind kind rest t e differs = refl
is_no_commit (records.Commit lsn txn prev) behind kind rest t e differs = let is : kind ≡ 4 = cc in absurd (differs is)
is_no_commit (records.End lsn txn prev) behind kind rest t e differs = refl
is_no_commit (records.BeginCheck lsn) behind kind rest t e differs = refl
is_no_commit (records.EndCheck lsn begin spans recs) behind kind rest t e differs = refl

pub byte_in_front : (bytes : List ℕ) (byte : ℕ) (rest : List ℕ) → byte_at bytes ≡ Some (byte, rest) → bytes ≡ byte ∷ rest
unfolding byte_at
byte_in_front [] byte rest e = absurd (cc)
byte_in_front (b ∷ bytes) byte rest e =
    let same : ◌≡◌ {A = ℕ × List ℕ} (b, bytes) (byte, rest) = cc in
    ap (λ (x : ℕ × List ℕ). x.0 ∷ x.1) same
