-- No task but an undo wants a page: for the goals of `work_on` and `recover_step`.
use Rattle.std.proofs.Common.{◌≡◌, ℕ, false, refl, sym, ap, ◌∙◌, subst}
use Rattle.std.specs.Prelude.{IfErr, OnErr, Result, Ok, Err}
use Rattle.sd_base.specs.declared.place.Place.{Place}
use Rattle.sd_base.specs.declared.refusal.Refusal.{Refusal}
use Rattle.sd_base.specs.declared.refusal.Refusal.TheVariants as R
use Rattle.sd_pagelock.specs.Directory.{entry_at}
use Rattle.sd_pagelock.specs.Places.{PageEntry, is_lost, uses}
use Rattle.sd_rig.specs.Devices.{DeviceImages}
use Rattle.sd_chain.specs.Logs.{Outcomes}
use Rattle.sd_world.specs.Serving.{Core}
use Rattle.sd_state.specs.Parts.{Parts}
use Rattle.sd_fits.specs.Fits.{Fits}
use Rattle.sd_recover.specs.Rebuilding.{LeavesLost}
use Rattle.sd_recover.specs.Recovering.{IsStandingBy, IsUnrecovering, WantsNone}
use Rattle.sd_recover.specs.Tasks.{AreThere}

-- what holds of a refusal that came
pub when-err : {X : Type 0} (r : Result X Refusal) (n : Refusal) (P : Refusal → Type 0) → r ≡ Err n → IfErr r P → P n
when-err {X} r n P is holds = subst (λ (q : Result X Refusal). IfErr q P) is holds

pub when-any : {X : Type 0} (r : Result X Refusal) (n : Refusal) (P : Type 0) → r ≡ Err n → OnErr r P → P
when-any {X} r n P is holds = subst (λ (q : Result X Refusal). OnErr q P) is holds

-- where a page is wanted, its place is one of which that holds
abbrev pub Wants : {X : Type 0} → Result X Refusal → (Place → Type 0) → Type 0
Wants result A = IfErr result (λ n. (place : Place) → n ≡ R.NeedPage place → A place)

-- a task that was refused and wants no page
pub none-wanted : {X Y : Type 0} (result : Result X Refusal) (done : Result Y Refusal) (A : Place → Type 0)
    → ((n : Refusal) → result ≡ Err n → done ≡ Err n) → IfErr done WantsNone → Wants result A
none-wanted (Ok x) done A same only = tt
none-wanted {X} {Y} (Err n) done A same only = λ place is.
    absurd (subst WantsNone is (subst (λ (d : Result Y Refusal). IfErr d WantsNone) (same n refl) only))

-- one that wants one, of whose place something else follows
pub wanted-so : {X Y : Type 0} (result : Result X Refusal) (done : Result Y Refusal) (A B : Place → Type 0)
    → ((n : Refusal) → result ≡ Err n → done ≡ Err n) → ((place : Place) → A place → B place) → Wants done A → Wants result B
wanted-so (Ok x) done A B same then wants = tt
wanted-so {X} {Y} (Err n) done A B same then wants = λ place is.
    then place (subst (λ (d : Result Y Refusal). Wants d A) (same n refl) wants place is)

lost-wants : (seen : DeviceImages) (leaves : Outcomes) (dev : ℕ) (n : Refusal) (by : ℕ) (old new : Parts)
    → LeavesLost seen leaves dev n by old new → WantsNone n
lost-wants seen leaves dev (R.NeedPage place) by old new h = h
lost-wants seen leaves dev n by old new h = tt

-- neither a device that is settled nor a lost page that is rebuilt wants one
pub lost-none : {X : Type 0} (seen : DeviceImages) (leaves : Outcomes) (dev : ℕ) (done : Result X Refusal) (by : ℕ) (old new : Parts)
    → IfErr done (λ n. LeavesLost seen leaves dev n by old new) → IfErr done WantsNone
lost-none seen leaves dev (Ok x) by old new h = tt
lost-none seen leaves dev (Err n) by old new h = lost-wants seen leaves dev n by old new h

-- nor does an instance that isn't recovered
pub unrecovering-wants : (c : Parts) (i : ℕ) (n : Refusal) → IsUnrecovering c i n → WantsNone n
unrecovering-wants c i (R.NeedPage place) h = h
unrecovering-wants c i n h = tt

-- Once no page is lost, whoever has a page or is to get it is active.
pub standing-by : (seen : DeviceImages) (leaves : Outcomes) (c : Parts) (w : Core) → Fits seen leaves c w → AreThere c → (p : ℕ)
    (e : PageEntry) → e ≡ entry_at c.directory p → IsStandingBy c e
standing-by seen leaves c w f there p e is = (
  ap is_lost is ∙ there.1 p,
  λ j used. (f.good.half (λ k. false)).coherent.live j p (sym (ap (λ (x : PageEntry). uses x j) is) ∙ used),
)
