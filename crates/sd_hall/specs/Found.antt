-- What an opening finds: whom the devices leave open, with their claims, how the instances stand, which pages are lost, and RecLSNs.
use Rattle.std.specs.Prelude.{◌≡◌, ℕ, ◌<◌, ◌≤◌, List, Option, None, Some}
use Rattle.sd_base.specs.declared.ids.Rid.{Rid}
use Rattle.sd_base.specs.declared.ids.TxnId.{TxnId}
use Rattle.sd_chain.specs.Bytes.{stable}
use Rattle.sd_chain.specs.Records.{home}
use Rattle.sd_fits.specs.declared.body.Body.{Body}
use Rattle.sd_hall.specs.Bodies.{IsRigIn, fits_in}
use Rattle.sd_model.specs.declared.event.Event.{Event}
use Rattle.sd_model.specs.declared.event.Event.TheVariants.{Reopen}
use Rattle.sd_model.specs.declared.event.Reply.{Reply}
use Rattle.sd_model.specs.declared.event.Reply.TheVariants.{Did}
use Rattle.sd_moves.specs.Opening.{RecLsnIsFirst, claim_in, is_lost_in, life_in, status_in}
use Rattle.sd_rig.specs.Devices.{DeviceImages}
use Rattle.sd_state.specs.Complexes.{parts}
use Rattle.sd_world.specs.Pages.{place_of}
use Rattle.sd_world.specs.Serving.{Core, Turns}

-- The world is what these devices tell: exactly those are there that they leave open, each to be undone, with an exclusive claim on each
-- record that it has open and no other; an instance is down where it has one of them, and each is where a page is lost, else clean; and
-- exactly those pages are lost whose newest version the data device lacks, each other free.
pub record IsFound (devices : DeviceImages) (w : Core) : Type 0 where
  pub lives : (t : TxnId) → 1 ≤ home t → home t ≤ 8 → (w.scene.state.part t).life ≡ life_in (stable devices) t
  pub claims : (t : TxnId) (r : Rid) → (w.scene.state.part t).claims r ≡ claim_in (stable devices) t r
  pub statuses : (i : ℕ) → 1 ≤ i → i ≤ 8 → (w.scene.state.inst i).status ≡ status_in (stable devices) i
  pub pages : (p : ℕ) → w.pages.entry p ≡ place_of (is_lost_in (stable devices) p)

-- The complex is open, and each of its pages has the RecLSN that the devices tell: the LSN of the first record of its chain above its
-- disk image, none where there is no such record.
abbrev pub NotesFirst : {G : Type 0} → (G → DeviceImages) → Option (Body G) → Type 0
NotesFirst seen None = ⊥
NotesFirst seen (Some (Body.Open c)) = (p : ℕ) → p < 1024 → RecLsnIsFirst (stable (seen c.rig)) (parts c) p
NotesFirst seen (Some (Body.Closed rig shape)) = ⊥

-- each world to which a reopening leads is what the devices tell then, and so are the RecLSNs
abbrev pub FindsIn : {G : Type 0} → (G → DeviceImages) → (G → ℕ → List ℕ → Type 0) → Option (Body G) → Type 0
FindsIn {G} seen leaves new = NotesFirst seen new
    × ((w w' : Core) (rig : G) → IsRigIn rig new → fits_in seen leaves new w' → Turns w Reopen Did w' → IsFound (seen rig) w')

-- so it is where a reopening is done
abbrev pub IsFoundIn : {G : Type 0} → (G → DeviceImages) → (G → ℕ → List ℕ → Type 0) → Event → Option Reply → Option (Body G) → Type 0
IsFoundIn seen leaves e answer new = e ≡ Reopen → answer ≡ Some Did → FindsIn seen leaves new
