-- Nine devices that are settled, and read.
use Rattle.std.specs.Prelude.{◌≡◌, ℕ, ◌≤◌, List, [], ◌∷◌}
use Rattle.sd_rig.specs.Devices.{DeviceImages, Elapses, Leaves, Span}

-- Time goes on, and what the devices read stays: a crash leaves nothing that it didn't leave before, and nothing else since.
pub record Calms (seen seen' : DeviceImages) (leaves leaves' : ℕ → List ℕ → Type 0) (moment moment' : ℕ) (since since' : ℕ → DeviceImages → Type 0) : Type 0 where
  pub reads : (d : ℕ) → seen' d ≡ seen d
  pub less : (d : ℕ) (bytes : List ℕ) → leaves' d bytes → leaves d bytes
  pub time : Elapses moment moment' since since'
  pub span : Span moment since' (Leaves leaves)

-- the two agree on the nine devices
abbrev pub AgreeOnNine : DeviceImages → DeviceImages → Type 0
AgreeOnNine a b = (d : ℕ) → d ≤ 8 → a d ≡ b d

-- what the nine devices read, that of device 0 first
abbrev pub images_of : DeviceImages → List (List ℕ)
images_of seen = seen 0 ∷ seen 1 ∷ seen 2 ∷ seen 3 ∷ seen 4 ∷ seen 5 ∷ seen 6 ∷ seen 7 ∷ seen 8 ∷ []
