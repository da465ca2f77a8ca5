-- What was found in the bytes of devices was found on these: for the goals of restarting.rt.
use Rattle.std.proofs.Common.{◌≡◌, ℕ, List, sym, ◌∙◌, subst}
use Rattle.std.specs.Prelude.{OnOk, Result, Ok, Err}
use mathlib.Core.Path.{fun_ext}
use Rattle.sd_rig.specs.Devices.{DeviceImages, LeavesOnly, LeavesSame}
use Rattle.sd_recovered.specs.Devices.{IsRecovered, devices_of}
use Rattle.sd_model.specs.State.{State}
use Rattle.sd_moves.specs.Opening.{AreOpened, OpensTo}
use Rattle.sd_state.specs.Parts.{Parts}
use Rattle.sd_restart.specs.Devices.{AgreeOnNine, images_of}
use Rattle.sd_restart.proofs.Alike.{recovered-same}
use Rattle.sd_restart.proofs.Nine.{each}

pub agree : (seen mid : DeviceImages) → ((d : ℕ) → mid d ≡ seen d) → AgreeOnNine (devices_of (images_of mid)) seen
agree seen mid reads d le = each mid d le ∙ reads d

pub same-devices : (a b : DeviceImages) → AgreeOnNine a b → AgreeOnNine b a
same-devices a b same d le = sym (same d le)

pub recovered-on : (a b : DeviceImages) → AgreeOnNine a b → (table : _) → IsRecovered a table → IsRecovered b table
recovered-on a b same table is p s lt = recovered-same a b same p s _ (is p s lt)

-- a settled device stays so while it is read
pub left-only : (bytes : List ℕ) (l l' : List ℕ → Type 0) → LeavesOnly bytes l → LeavesSame l l' → LeavesOnly bytes l'
left-only bytes l l' only same b = (λ left. (only b).0 ((same b).0 left), λ is. (same b).1 ((only b).1 is))

-- what holds whatever was answered
pub on-any : {T E : Type 0} (r : Result T E) (P : Type 0) → P → OnOk r P
on-any (Ok x) P p = p
on-any (Err e) P p = tt

-- what is read stays, and so what the devices open to
pub opens-still : (a b : DeviceImages) → ((d : ℕ) → b d ≡ a d) → (m : State) → OpensTo a m → OpensTo b m
opens-still a b reads m o = subst (λ (img : DeviceImages). OpensTo img m) (fun_ext (λ d. sym (reads d))) o

pub opened-still : (a b : DeviceImages) → ((d : ℕ) → b d ≡ a d) → (frames : ℕ) (c : Parts) → AreOpened frames a c → AreOpened frames b c
opened-still a b reads frames c o = subst (λ (img : DeviceImages). AreOpened frames img c) (fun_ext (λ d. sym (reads d))) o
