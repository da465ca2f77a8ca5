-- Images that agree on the nine devices keep the same. For the goals of restarting.rt.
use Rattle.std.proofs.Common.{◌≡◌, ⊎_elim, ℕ, ◌+◌, ◌^◌, ◌<◌, ◌≤◌, true, false, ltb, ◌&&◌, cond, List, [], ◌∷◌, sum_by, refl, sym, ap, ◌∙◌, subst, arith, le-ltb}
use Rattle.std.proofs.lemmas.Bool.{cases_lt}
use mathlib.Core.Path.{fun_ext}
use Rattle.sd_logrec.specs.Kept.{kept}
use Rattle.sd_logrec.specs.View.{Rec}
use Rattle.sd_page.specs.Page.{Page}
use Rattle.sd_rig.specs.Devices.{DeviceImages}
use Rattle.sd_chain.specs.Bytes.{disk_page, log_of, records_of, stable}
use Rattle.sd_chain.specs.Checks.{DevicesAreSound, GroupsAreSound, MasterIsSound, TwinIsSound, TxnsAreSound, gate_of, owed, reserve}
use Rattle.sd_chain.specs.Storage as disks
use Rattle.sd_chain.specs.Storage.{Recovered, Sound}
use Rattle.sd_chain.specs.Records.{Each}
use Rattle.sd_restart.specs.Devices.{AgreeOnNine}

and-false : (x : _) → (x && false) ≡ false
and-false true = refl
and-false false = refl

abbrev with_parts : (ℕ → List Rec) → (ℕ → Page) → disks.Storage
with_parts logs disk = record { logs = logs; disk = disk }

module _ (a b : DeviceImages) (same : AgreeOnNine a b) where
  pub log-same : (j : ℕ) → log_of a j ≡ log_of b j
  log-same j = ⊎_elim
      (λ (lt : j < 9). ap (λ (bytes : List ℕ). cond {A = List Rec} (ltb 0 j && ltb j 9) (records_of (kept bytes)) []) (same j (omega (arith, lt))))
      (λ (le : 9 ≤ j).
      let out : ltb j 9 ≡ false = le-ltb j 9 le in
      let none : (ltb 0 j && ltb j 9) ≡ false = ap (λ x. ltb 0 j && x) out ∙ and-false (ltb 0 j) in
      ap (λ x. cond {A = List Rec} x (records_of (kept (a j))) []) none
      ∙ sym (ap (λ x. cond {A = List Rec} x (records_of (kept (b j))) []) none))
      (cases_lt j 9)

  -- what they keep is the same
  pub stable-same : stable a ≡ stable b
  stable-same =
      ap (λ (logs : ℕ → List Rec). with_parts logs (disk_page (a 0))) (fun_ext log-same)
      ∙ ap (λ (bytes : List ℕ). with_parts (log_of b) (disk_page bytes)) (same 0 (omega arith))

  -- so is what recovery gives,
  pub recovered-same : (p s : ℕ) (value : _) → Recovered (stable a) p s value → Recovered (stable b) p s value
  recovered-same p s value = subst (λ (img : disks.Storage). Recovered img p s value) stable-same

  -- and the one are sound where the others are
  pub sound-same : DevicesAreSound a → DevicesAreSound b
  sound-same s = record {
    masters = λ j one le. subst MasterIsSound (same j le) (s.masters j one le);
    groups = λ j one le. subst (GroupsAreSound j) (same j le) (s.groups j one le);
    txns = λ j one le. subst TxnsAreSound (same j le) (s.txns j one le);
    twins = λ p lt. subst (TwinIsSound p) (same 0 (omega arith)) (s.twins p lt);
    kept = subst Sound stable-same s.kept;
    room = λ j one le.
        subst (λ (bytes : List ℕ). gate_of (kept bytes) + reserve (log_of b j) + 1 ≤ 1048576) (same j le)
        (subst (λ (log : List Rec). gate_of (kept (a j)) + reserve log + 1 ≤ 1048576) (log-same j) (s.room j one le));
    lsns = record {
      logs = subst (λ (img : disks.Storage). (j : ℕ)
          → Each (λ x. x.lsn + sum_by (λ k. owed (img.logs k)) (1 ∷ 2 ∷ 3 ∷ 4 ∷ 5 ∷ 6 ∷ 7 ∷ 8 ∷ []) < 2 ^ 62) (img.logs j)) stable-same s.lsns.logs;
      pages = subst (λ (img : disks.Storage). (p : ℕ) → p < 1024
          → (img.disk p).lsn + sum_by (λ k. owed (img.logs k)) (1 ∷ 2 ∷ 3 ∷ 4 ∷ 5 ∷ 6 ∷ 7 ∷ 8 ∷ []) < 2 ^ 62) stable-same s.lsns.pages;
    };
  }
