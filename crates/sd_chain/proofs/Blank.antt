-- Blank devices, with new logs, are sound: for the law `blank`.
use Rattle.std.proofs.Common.{◌≡◌, ◌≢◌, ℕ, zero, suc, ◌+◌, ◌≤◌, Bool, true, false, cond, List, [], Option, None, replicate, take, drop, length, refl, sym, ap, ap₂, ◌∙◌, subst, arith}
use Rattle.std.specs.Prelude.{IfSome, IsTrue}
use Rattle.std.specs.List.{list_any}
use Rattle.sd_base.specs.Twin.{Neither, Same, Slot, body_at, body_of, chosen_body, chosen_slot, is_open, number_of, slot_of}
use Rattle.sd_logrec.specs.Kept.{Master, Whole, area, groups_within, master, master_of, reading}
use Rattle.sd_logrec.specs.View.{Rec}
use Rattle.sd_page.specs.Page.{Page}
use Rattle.sd_log.specs.Logs.{LogState}
use Rattle.sd_chain.specs.Bytes.{page_in, twin_at}
use Rattle.sd_chain.specs.Checks.{TwinIsSound, is_end_check, owed}
use Rattle.sd_chain.specs.Images.{Keeps}
use Rattle.sd_chain.specs.Records.{Each}
use Rattle.sd_chain.specs.Logs.{IsBlank, Outcomes, kept_logs, new_log, owed_with, records_at, tails_of}
use Rattle.sd_chain.specs.Soundly.{HasLsns, IsReady}
use Rattle.sd_chain.specs.ChecksKept.{BlankIsSound}
use Rattle.sd_chain.proofs.Sums.{sum-eight}
use Rattle.sd_chain.proofs.Follows.{not-both}
use Rattle.sd_chain.proofs.Ready.{bare-ready}
use Rattle.sd_base.proofs.Twins.{open_within}
use Rattle.sd_logrec.proofs.Groups.{shut}

-- zeros
pub zeros-blank : (n : ℕ) → IsBlank (replicate n 0)
zeros-blank zero gate = refl
zeros-blank (suc n) zero = refl
zeros-blank (suc n) (suc gate) = zeros-blank n gate

slot_blank : (at n : ℕ) (bytes : List ℕ) → IsBlank bytes → chosen_slot at n bytes ≡ Neither
slot_blank at n bytes b =
    ap₂ (λ (x y : Bool). slot_of x y (number_of (body_at n at bytes)) (number_of (body_at n (at + n + 1) bytes))) (b at)
    (b (at + n + 1))

pub body_blank : (at n : ℕ) (bytes : List ℕ) → IsBlank bytes → chosen_body at n bytes ≡ None
body_blank at n bytes b =
    ap (λ (s : Slot). body_of s (body_at n at bytes) (body_at n (at + n + 1) bytes)) (slot_blank at n bytes b)

not_same : (s : Slot) → s ≡ Neither → s ≢ Same
not_same s e f = absurd (cc)

pub master_blank : (bytes : List ℕ) → IsBlank bytes → master bytes ≡ master_of None
unfolding master
master_blank bytes b = ap master_of (body_blank 0 64 bytes b)

reads_blank : (bytes : List ℕ) → IsBlank bytes → reading 0 (area bytes) ≡ Whole [] 0
unfolding reading area
reads_blank bytes b = shut (length (take 1048576 (drop 130 bytes))) 0 (take 1048576 (drop 130 bytes))
    (open_within 130 1048576 0 bytes (omega arith) ∙ b 130)

-- a new log is ready on a blank device
pub blank-ready : (j : ℕ) (bytes : List ℕ) (log : LogState) → IsBlank bytes → IsReady j bytes (new_log j log.spare)
blank-ready j bytes log b =
    bare-ready j bytes (new_log j log.spare) refl (ap (λ (m : Master). m.start) (master_blank bytes b)) (reads_blank bytes b)
    (record {
      differ = not_same (chosen_slot 0 64 bytes) (slot_blank 0 64 bytes b);
      first = λ is. absurd (not-both (is_open 0 bytes) is (b 0));
      second = λ is. absurd (not-both (is_open 65 bytes) is (b 65));
    })
    (record {
      ended = subst (λ (o : Option (List ℕ)). IfSome o
          (λ _. IsTrue (list_any (is_end_check (master bytes).check) (records_at (new_log j log.spare)))))
          (sym (body_blank 0 64 bytes b)) tt;
      follow = tt;
      room = omega arith;
    })

-- no page is on it
pub blank-twin : (p : ℕ) (bytes : List ℕ) → IsBlank bytes → TwinIsSound p bytes
blank-twin p bytes b = record {
  differ = not_same (chosen_slot (twin_at p) 1024 bytes) (slot_blank (twin_at p) 1024 bytes b);
  first = λ is. absurd (not-both (is_open (twin_at p) bytes) is (b (twin_at p)));
  second = λ is. absurd (not-both (is_open (twin_at p + 1025) bytes) is (b (twin_at p + 1025)));
}

-- so all is sound
pub blank-sound : (leaves : Outcomes) → BlankIsSound leaves
blank-sound leaves logs blank new = record {
  ready = λ j lo hi bytes l. subst (IsReady j bytes) (sym (new j lo hi)) (blank-ready j bytes (logs j) (blank j hi bytes l));
  twins = λ p lt bytes l. blank-twin p bytes (blank 0 (omega arith) bytes l);
  lsns = λ keeps. record {
    logs = λ j lo hi. subst (Each (HasLsns (tails_of logs) keeps)) (sym (empty keeps j lo hi)) tt;
    pages = λ p x m.
        let none = nothing keeps in
        let zero_lsn : x.lsn ≡ 0 =
        ap (λ (y : Page). y.lsn) (sym m.2
        ∙ ap (page_in p) (body_blank (twin_at p) 1024 m.0 (blank 0 (omega arith) m.0 m.1))) in
        omega (arith, none, zero_lsn);
  };
}
  where
    with : (b : Bool) → cond {A = List Rec} b [] [] ≡ []
    with true = refl
    with false = refl

    empty : (keeps : Keeps) (j : ℕ) → 1 ≤ j → j ≤ 8 → kept_logs (tails_of logs) keeps j ≡ []
    empty keeps j lo hi = ap (λ (l : LogState). kept_logs (tails_of (λ k. l)) keeps j) (new j lo hi) ∙ with (keeps j)

    owes_none : (keeps : Keeps) (j : ℕ) → 1 ≤ j → j ≤ 8 → owed (kept_logs (tails_of logs) keeps j) ≡ 0
    owes_none keeps j lo hi = ap owed (empty keeps j lo hi)

    nothing : (keeps : Keeps) → owed_with (tails_of logs) keeps ≡ 0
    nothing keeps = sum-eight (λ j. owed (kept_logs (tails_of logs) keeps j)) (λ j. 0) (owes_none keeps)
