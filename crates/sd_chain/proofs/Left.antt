-- What a crash leaves is one of the images of the logs and pages: for the goals of `crashed` in laws.rt, and lent to the crates
-- above.
use Rattle.std.proofs.Common.{◌≡◌, ◌⊎◌, inl, inr, ⊎_elim, ℕ, Bool, true, false, List, [], ◌++◌, cond, refl, sym, ap, ◌∙◌, subst, append-nil}
use Rattle.std.proofs.lemmas.Bool.{cases_eq}
use mathlib.Core.Path.{fun_ext}
use Rattle.sd_logrec.specs.View.{Rec}
use Rattle.sd_page.specs.Page.{Page}
use Rattle.sd_chain.specs.Records.{Val}
use Rattle.sd_chain.specs.Storage.{Recovered, Sound, Storage}
use Rattle.sd_chain.specs.Cuts.{cut}
use Rattle.sd_chain.specs.Order.{Tidy}
use Rattle.sd_chain.specs.Images.{Tails, Keeps, IsSafe, Gives, with_disk, or_written}
use Rattle.sd_chain.specs.Crashes.{CrashLeaves, StandsFor, DuringForce, DuringPut}

-- whether it is the second one
abbrev pub which : {A B : Type 0} → A ⊎ B → Bool
which (inl a) = false
which (inr b) = true

-- the tails that the image has
abbrev pub kept_tails : (tails : Tails) (may : ℕ → Page → Type 0) (img : Storage) → CrashLeaves tails may img → Keeps
kept_tails tails may img l j = which (l.logs j)

-- each log of the image is its forced records, with its tail where the image has it
pub has_tails : (tails : Tails) (may : ℕ → Page → Type 0) (img : Storage) (l : CrashLeaves tails may img) (j : ℕ)
    → img.logs j ≡ tails.base j ++ cond (kept_tails tails may img l j) (tails.tail j) []
has_tails tails may img l j = each j (l.logs j)
  where
    each : (j : ℕ) (s : (img.logs j ≡ tails.base j) ⊎ (img.logs j ≡ tails.base j ++ tails.tail j)) → img.logs j ≡ tails.base j
        ++ cond (which s) (tails.tail j) []
    each j (inl e) = e ∙ sym (append-nil (tails.base j))
    each j (inr e) = e

-- the image is the cut at the tails that it has
pub is_cut : (tails : Tails) (may : ℕ → Page → Type 0) (img : Storage) (l : CrashLeaves tails may img)
    → img ≡ cut (kept_tails tails may img l) (with_disk tails img.disk)
is_cut tails may img l = ap (λ (f : ℕ → List Rec). with_logs f) (fun_ext (λ j. has_tails tails may img l j))
  where
    with_logs : (ℕ → List Rec) → Storage
    with_logs logs = record { logs = logs; disk = img.disk }

-- what is left stands for what belongs to its tails

pub left-stands : (tails : Tails) (may : ℕ → Page → Type 0) (version : Keeps → ℕ → Page) (value : Keeps → ℕ → ℕ → Val)
    (img : Storage) → IsSafe tails may version → Gives tails may value → CrashLeaves tails may img → StandsFor tails value img
left-stands tails may version value img safe gives l =
    let keeps = kept_tails tails may img l in
    let is = is_cut tails may img l in
    record {
      keeps = keeps;
      logs = λ j. has_tails tails may img l j;
      order = λ j t. subst (Tidy t) (sym (has_tails tails may img l j)) (safe.order keeps j t);
      sound = subst Sound (sym is) (safe.sound img.disk l.disks keeps);
      recovered = λ p s. subst (λ (i : Storage). Recovered i p s (value keeps p s)) (sym is) (gives img.disk l.disks keeps p s);
    }

-- what a force leaves may be left before or after it
pub force-leaves : (i : ℕ) (tails : Tails) (may : ℕ → Page → Type 0) (img : Storage) → DuringForce i tails may img
    → CrashLeaves tails may img
force-leaves i tails may img f = record {
  logs = λ j. ⊎_elim
      (λ e. subst (λ (k : ℕ). (img.logs k ≡ tails.base k) ⊎ (img.logs k ≡ tails.base k ++ tails.tail k)) (sym e) f.here)
      (λ ne. ⊎_elim (λ a. inl (f.others j ne ∙ a)) (λ a. inr (f.others j ne ∙ a)) (f.could.logs j))
      (cases_eq j i);
  disks = λ p. subst (may p) (sym (f.disk p)) (f.could.disks p);
}

-- what a put of a page leaves may be left before it, or is the page
pub put-leaves : (p : ℕ) (page : Page) (tails : Tails) (may : ℕ → Page → Type 0) (img : Storage) → DuringPut p page tails may img
    → CrashLeaves tails (or_written may p page) img
put-leaves p page tails may img f = record {
  logs = λ j. ⊎_elim (λ a. inl (f.logs j ∙ a)) (λ a. inr (f.logs j ∙ a)) (f.could.logs j);
  disks = λ q. ⊎_elim
      (λ e. subst (λ (k : ℕ). or_written may p page k (img.disk k)) (sym e)
      (⊎_elim (λ old. inl (subst (may p) (sym old) (f.could.disks p))) (λ new. inr (refl, new)) f.here))
      (λ ne. inl (subst (may q) (sym (f.others q ne)) (f.could.disks q)))
      (cases_eq q p);
}
