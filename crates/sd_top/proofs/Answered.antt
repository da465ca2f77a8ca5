-- What the calls of replaying.rt answer. It serves the goals of replaying.rt.
use Rattle.std.proofs.Common.{◌≡◌, ◌⊎◌, ℕ, true, false, ◌<◌, ◌≤◌, ◌+◌, List, [], ◌++◌, length, inl, inr, ⊎_elim, refl, sym, ap, ap₂, ◌∙◌, subst, arith, length-append}
use Rattle.std.specs.Prelude.{Option, None, Some, IsSome, Result, Ok, Err, OnOk, OnErr}
use Rattle.clap.specs.Words.{Text}
use Rattle.std.proofs.lemmas.List.{append-nil}
use Rattle.sd_base.specs.declared.ids.Rid.{Rid}
use Rattle.sd_base.specs.Streams.{Rises}
use Rattle.sd_base.specs.declared.refusal.Refusal.{Refusal}
use Rattle.sd_base.specs.declared.refusal.Refusal.TheVariants as R
use Rattle.sd_rig.specs.Devices.{DeviceImages}
use Rattle.sd_model.specs.History.{History}
use Rattle.sd_model.specs.declared.event.Entry.{Entry}
use Rattle.sd_model.specs.SerialLaws.{RunIsSerial}
use Rattle.sd_chain.specs.Checks.{DevicesAreSound}
use Rattle.sd_chain.specs.Faults.{FailsFirstAt}
use Rattle.sd_recovered.specs.Devices.{IsRecovered}
use Rattle.sd_script.specs.declared.line.Line.{Line}
use Rattle.sd_report.specs.Report.{bad_text}
use Rattle.sd_script.specs.Order.{insts_of, pages_of}
use Rattle.sd_base.specs.declared.refusal.LineError.{LineError}
use Rattle.sd_script.specs.Reading.{IsScript, IsBadAt}
use Rattle.sd_script.proofs.Readings.{no_bad_script}
use Rattle.sd_script.proofs.Scripts.{script_ends}
use Rattle.sd_gen.specs.Generated.{gen_text}
use Rattle.sd_gen.proofs.Scripted.{generated}
use Rattle.sd_world.specs.Serving.{Core, Telling}
use Rattle.sd_world.proofs.Leading.{leads-run}
use Rattle.sd_fits.specs.declared.body.Body.{Body}
use Rattle.sd_fits.specs.Bodies.{rig_of}
use Rattle.sd_fits.specs.Opened.{opening_core}
use Rattle.sd_fits.proofs.Opened.{is-opened}
use Rattle.sd_hall.specs.declared.hall.Hall.{Hall}
use Rattle.sd_hall.specs.Bodies.{IsRigIn, fits_in}
use Rattle.sd_hall.specs.Keeping.{Keeps}
use Rattle.sd_drive.specs.Driving.{AreLines, IsTold, IsUnderWay, Work, World, works_of}
use Rattle.sd_drive.specs.Driven.{IsIn}
use Rattle.sd_drive.specs.declared.opening.Rise.{Rise}
use Rattle.sd_drive.specs.Rising.{before, begin_of}
use Rattle.sd_drive.specs.Reaching.{Reached}
use Rattle.sd_drive.specs.Running.{Breaks, Led, Start, told_as}
use Rattle.sd_drive.specs.declared.driver.Driver.{Driver}
use Rattle.sd_drive.proofs.Lined.{in-as, never-opening}
use Rattle.sd_drive.proofs.Running.{drives-leads, ran-led}
use Rattle.sd_drive.proofs.Ways.{goes-way}
use Rattle.sd_top.specs.declared.status.Status.{Status}
use Rattle.sd_top.specs.declared.status.Status.TheVariants as status
use Rattle.sd_top.specs.declared.first_bad.BadLine.{BadLine}
use Rattle.sd_top.specs.Sides.{SourceSide, SinkSide}
use Rattle.sd_top.specs.Input.{Taken, IsAtEnd}
use Rattle.sd_top.specs.declared.words.Request.{Request}
use Rattle.sd_top.specs.declared.words.Request.TheVariants as want
use Rattle.sd_top.specs.Asking.{Gave, GivesText, IsDue, IsUnread, ReadFails, told_by}
use Rattle.sd_top.specs.Words.{IsCommand, asked_of}
use Rattle.sd_top.specs.FirstBad.{IsFirstBad, line_at}
use Rattle.sd_top.specs.Reporting.{Delivers, TellsBad, TellsDamaged, TellsUnopened, WrittenUnless}
use Rattle.sd_top.specs.Opening.{AreRead, LedFrom, Opens, frames_of, opening, opening_world}
use Rattle.sd_top.specs.declared.replaying.Ended.{Ended}
use Rattle.sd_top.specs.Unopened.{IsEnded, IsOpened, IsUnopened}
use Rattle.sd_top.specs.Outcome.{Answers, Ends, FailsLater, IsPartial, Outcome, Replayed, WritesFirst}

-- ---- the opening

-- a hall whose complex fits a world has devices
pub has_rig : {G : Type 0} (tell : Telling G) (start : Core) (hall : Hall G) → Keeps tell start hall → (now : G) × IsRigIn now hall.body
has_rig {G} tell start hall keeps = go hall.body keeps.core keeps.fits where
  go : (b : Option (Body G)) (w : Core) → fits_in tell.seen tell.leaves b w → (now : G) × IsRigIn now b
  go None w f = absurd f
  go (Some body) w f = (rig_of body, refl)

-- the start that a hall of so many instances and pages has
pub opens_as : {G : Type 0} (insts pages : ℕ) (lines : List Line) (devices : DeviceImages) (now : G) (table : List (Rid × List ℕ))
    → insts ≡ insts_of lines → pages ≡ pages_of lines
    → record { world = before insts pages lines (opening_core (frames_of lines) devices); rig = now; table = table; opened = false }
    ≡ opening lines devices now table
opens_as insts pages lines devices now table insts_are is =
    ap₂ (λ k n. record { world = before k n lines (opening_core (frames_of lines) devices); rig = now; table = table; opened = false }) insts_are is

-- what led from the devices as they were read led from the devices as they were
pub led_from : {G : Type 0} (tell : Telling G) (lines : List Line) (rig now rig' : G) (table : List (Rid × List ℕ)) (entries : List Entry)
    (last : World) → Opens tell rig now table → Led tell (opening lines (tell.seen rig) now table) rig' entries last
    → LedFrom tell lines rig rig' table entries last
led_from tell lines rig now rig' table entries last opens led = record {
  now = now;
  opens = opens;
  led = led;
  moments = record {
    each = λ img left. ⊎_elim (λ before. inl (opens.read.span.each img before)) (λ way. inr way)
        (goes-way tell entries (opening_world lines (tell.seen rig)) last now rig' led.runs.goes (tell.moment rig) img opens.read.time.later left);
  };
}

module _ {G : Type 0} (tell : Telling G) (lines : List Line) (rig : G) where
  -- the same where the table has another name
  same-opens : (table table' : List (Rid × List ℕ)) (now : G) → table' ≡ table → Opens tell rig now table → Opens tell rig now table'
  same-opens table table' now is opens = subst (λ (t : List (Rid × List ℕ)). Opens tell rig now t) (sym is) opens

  -- a hall that was opened stands before the opening
  pub before_opening : (first : Hall G) (rise : Rise G) → Keeps tell (opening_core (frames_of lines) (tell.seen rig)) first
      → DevicesAreSound (tell.seen rig) → IsRecovered (tell.seen rig) first.book.opening
      → ((now : G) → IsRigIn now first.body → AreRead tell rig now) → ((now : G) → IsRigIn now first.body → tell.faults now ≡ tell.faults rig)
      → Keeps tell (opening_core (frames_of lines) (tell.seen rig)) rise.hall → rise.hall.body ≡ first.body
      → rise.hall.book.opening ≡ first.book.opening → rise.hall.book.entries ≡ [] → rise.insts ≡ insts_of lines
      → rise.pages ≡ pages_of lines → IsUnopened tell lines rig rise
  before_opening first rise kept sound recovered read quiet keeps body table entries insts pages =
      let (now, has) = has_rig tell (opening_core (frames_of lines) (tell.seen rig)) first kept in
      record {
        now = now;
        has = subst (λ (b : Option (Body G)). IsRigIn now b) (sym body) has;
        opens = record {
          read = read now has;
          quiet = quiet now has;
          sound = sound;
          recovered = subst (λ (t : List (Rid × List ℕ)). IsRecovered (tell.seen rig) t) (sym table) recovered;
        };
        keeps = keeps;
        entries = entries;
        insts = insts;
        pages = pages;
      }

  -- the opening is done
  pub opened_by : (old : Rise G) (new : Driver G) (w : World) (u : IsUnopened tell lines rig old)
      → Reached tell (told_as (begin_of old lines (opening_core (frames_of lines) (tell.seen rig)) u.now) true) lines 0 new w
      → IsOpened tell lines rig new w
  opened_by old new w u reached =
      let is = opens_as old.insts old.pages lines (tell.seen rig) u.now old.hall.book.opening u.insts u.pages in
      let table : new.hall.book.opening ≡ old.hall.book.opening = reached.there.table in
      record {
        now = u.now;
        opens = same-opens old.hall.book.opening new.hall.book.opening u.now table u.opens;
        reached = subst (λ (t : List (Rid × List ℕ)). Reached tell (told_as (opening lines (tell.seen rig) u.now t) true) lines 0 new w) (sym table)
            (subst (λ (s : Start G). Reached tell (told_as s true) lines 0 new w) is reached);
      }

  -- a hall that was driven from the opening has devices that are led to
  pub led_in : (now rig' : G) (table : List (Rid × List ℕ)) (hall : Hall G) (w : World)
      → ((r : G) (dev : ℕ) → dev ≤ 8 → tell.leaves r dev (tell.seen r dev)) → Opens tell rig now table
      → IsIn tell (opening lines (tell.seen rig) now table) hall w → IsRigIn rig' hall.body
      → LedFrom tell lines rig rig' hall.book.opening hall.book.entries w
  led_in now rig' table hall w seen opens there has =
      let start = opening lines (tell.seen rig) now table in
      let is : rig_of there.body ≡ rig' = subst (λ (b : Option (Body G)). IsRigIn rig' b) there.is has in
      subst (λ (t : List (Rid × List ℕ)). LedFrom tell lines rig rig' t hall.book.entries w) (sym there.table)
      (led_from tell lines rig now rig' table hall.book.entries w opens
      (subst (λ (r : G). Led tell start r hall.book.entries w) is
      (ran-led tell start hall.book.entries w there.body (λ dev le. seen (rig_of there.body) dev le) there.ran)))

  -- the lines were driven, as far as there was memory: the hall is in a world to which the opening's leads
  pub driven_by : {X Y : Type 0} (old new : Driver G) (w : World) (done : Result X Y) (o : IsOpened tell lines rig old w)
      → OnOk done ((start : Start G) (w : World) → Reached tell start lines 0 old w
      → (w' : World) × IsIn tell start new.hall w' × IsTold w'.core.scene.state w'.told)
      → OnErr done ((start : Start G) (w : World) → Reached tell start lines 0 old w → (w' : World) × IsIn tell start new.hall w')
      → (w' : World) × IsIn tell (told_as (opening lines (tell.seen rig) o.now old.hall.book.opening) true) new.hall w'
      × OnOk done (IsTold w'.core.scene.state w'.told)
  driven_by old new w (Ok x) o told memory = told (told_as (opening lines (tell.seen rig) o.now old.hall.book.opening) true) w o.reached
  driven_by old new w (Err e) o told memory =
      let (w', there) = memory (told_as (opening lines (tell.seen rig) o.now old.hall.book.opening) true) w o.reached in (w', there, tt)

  -- and the complex is closed
  pub ended_by : (old new : Driver G) (w : World) (ended : Ended G) → ((r : G) (dev : ℕ) → dev ≤ 8 → tell.leaves r dev (tell.seen r dev))
      → IsOpened tell lines rig old w
      → OnOk ended.done ((start : Start G) (w : World) → Reached tell start lines 0 old w
      → (w' : World) × IsIn tell start new.hall w' × IsTold w'.core.scene.state w'.told)
      → OnErr ended.done ((start : Start G) (w : World) → Reached tell start lines 0 old w → (w' : World) × IsIn tell start new.hall w')
      → ended.book ≡ new.hall.book → IsRigIn ended.rig new.hall.body → IsEnded tell lines rig ended
  ended_by old new w ended seen o told memory is has = let (last, there, all) = driven_by old new w ended.done o told memory in record {
    last = last;
    led = subst (λ (b : History). LedFrom tell lines rig ended.rig b.opening b.entries last) (sym is)
        (led_in o.now ended.rig old.hall.book.opening new.hall last seen o.opens
        (in-as tell (told_as (opening lines (tell.seen rig) o.now old.hall.book.opening) true) false new.hall last (λ never. absurd (cc)) there) has);
    told = all;
    lines_alone = there.behind refl;
  }

  -- a device failed behind the reading
  pub fails_later : (now rig' : G) (table : List (Rid × List ℕ)) → Opens tell rig now table
      → Breaks tell (opening lines (tell.seen rig) now table) rig' → FailsLater tell lines rig rig'
  fails_later now rig' table opens breaks = record {
    table = table;
    entries = breaks.entries;
    last = breaks.last;
    led = led_from tell lines rig now rig' table breaks.entries breaks.last opens breaks.led;
    failed = breaks.failed;
    faults = subst (λ (n : ℕ). Rises n (tell.faults rig')) opens.quiet breaks.faults;
  }

-- ---- a run

-- what a run from the opening leaves is serial
module _ (serial : RunIsSerial) {G : Type 0} (tell : Telling G) (rig rig' : G) where
  replayed : (text : List ℕ) (lines : List Line) (book : History) (world : World) → IsScript text lines
      → LedFrom tell lines rig rig' book.opening book.entries world → Replayed tell rig rig' (Some book) text lines book world
  replayed text lines book world script led = let first : World = opening_world lines (tell.seen rig) in record {
    script = script;
    book_is = refl;
    led = led;
    serial = serial book.entries first.core.scene.state world.core.scene.state (is-opened (tell.seen rig) led.opens.sound).opening
        (leads-run book.entries first.core world.core (drives-leads book.entries first world led.led.drives));
  }

  -- what is told is delivered
  pub answers_told : (asked : Request) (s : Status) (text : List ℕ) (lines : List Line) (book : History) (world : World) (sink sink' : SinkSide)
      → IsScript text lines → LedFrom tell lines rig rig' book.opening book.entries world → IsTold world.core.scene.state world.told
      → AreLines world.told.left → Delivers s sink (told_by asked lines book.entries) sink'
      → Answers tell asked s text (record { sink = sink; rig = rig }) (record { sink = sink'; rig = rig' }) (Some book) None
  answers_told asked status.Done text lines book world sink sink' script led told alone delivers =
      (lines, book, world, replayed text lines book world script led, record { told = told; report = delivers })
  answers_told asked status.WriteFault text lines book world sink sink' script led told alone delivers =
      (lines, book, world, replayed text lines book world script led, record { told = told; front = delivers.1; failed = delivers.0 })
  answers_told asked status.NoMemory text lines book world sink sink' script led told alone delivers =
      ((lines, world, replayed text lines book world script led, λ rest. never-opening world rest alone), delivers)
  answers_told asked status.Usage text lines book world sink sink' script led told alone delivers = delivers
  answers_told asked status.BadLine text lines book world sink sink' script led told alone delivers = absurd (delivers)
  answers_told asked status.ReadFault text lines book world sink sink' script led told alone delivers = delivers
  answers_told asked status.Damaged text lines book world sink sink' script led told alone delivers = absurd (delivers)
  answers_told asked status.Device text lines book world sink sink' script led told alone delivers = absurd (delivers)

  -- there was no memory for the rest
  pub answers_partial : (asked : Request) (text : List ℕ) (lines : List Line) (book : History) (world : World) (sink sink' : SinkSide)
      → IsScript text lines → LedFrom tell lines rig rig' book.opening book.entries world → AreLines world.told.left
      → sink'.written ≡ sink.written
      → Answers tell asked status.NoMemory text (record { sink = sink; rig = rig }) (record { sink = sink'; rig = rig' }) (Some book) None
  answers_partial asked text lines book world sink sink' script led alone kept =
      ((lines, world, replayed text lines book world script led, λ rest. never-opening world rest alone), kept)

-- ---- a complex that isn't opened

module _ {G : Type 0} (tell : Telling G) (asked : Request) (text : List ℕ) (lines : List Line) (sink sink' : SinkSide) (rig rig' : G)
    (script : IsScript text lines) where
  abbrev Tells : Status → Type 0
  Tells s = Answers tell asked s text (record { sink = sink; rig = rig }) (record { sink = sink'; rig = rig' }) None None

  as_told : (s x : Status) → s ≡ x → Tells x → Tells s
  as_told s x is h = subst Tells (sym is) h

  -- by its recoveries and joins
  pub answers_unopened : (n : Refusal) (s : Status) → TellsUnopened n s sink sink' → (n ≡ R.Memory) ⊎ (n ≡ R.Failed)
      → (n ≡ R.Memory → (table : List (Rid × List ℕ)) × (entries : List Entry) × (world : World)
      × LedFrom tell lines rig rig' table entries world × IsUnderWay Work.Opening (works_of lines) world)
      → (n ≡ R.Failed → FailsLater tell lines rig rig') → Tells s
  answers_unopened n s tells either memory failed = ⊎_elim
      (λ is. let told : TellsUnopened R.Memory s sink sink' = subst (λ (x : Refusal). TellsUnopened x s sink sink') is tells in
      let h = memory is in
      as_told s status.NoMemory told.0 (
        inr (inr (record { lines = lines; script = script; table = h.0; entries = h.1; world = h.2; led = h.3; opening = h.4 })),
        told.1,
      ))
      (λ is. let told : TellsUnopened R.Failed s sink sink' = subst (λ (x : Refusal). TellsUnopened x s sink sink') is tells in
      as_told s status.Device told.0 (
        record { lines = lines; script = script; fails = inr (failed is); written = told.1 },
        refl,
      ))
      either

  -- a device failed in the reading, which found no memory, or devices that aren't sound
  module _ (read : AreRead tell rig rig') where
    out_of_memory : tell.faults rig' ≡ tell.faults rig → sink'.written ≡ sink.written → Tells status.NoMemory
    out_of_memory quiet kept = (inr (inl (record { lines = lines; script = script; read = read; quiet = quiet })), kept)

    damaged : (s : Status) (dev at : ℕ) → TellsDamaged s dev at sink sink' → tell.faults rig' ≡ tell.faults rig
        → (DevicesAreSound (tell.seen rig) → ⊥) → FailsFirstAt (tell.seen rig) dev at → Tells s
    damaged status.Damaged dev at tells quiet unsound first = (
      record {
        lines = lines;
        script = script;
        dev = dev;
        at = at;
        unsound = unsound;
        first = first;
        read = read;
        quiet = quiet;
        written = tells;
      },
      refl,
    )
    damaged status.NoMemory dev at tells quiet unsound first = out_of_memory quiet tells
    damaged status.Done dev at tells quiet unsound first = absurd (tells)
    damaged status.BadLine dev at tells quiet unsound first = absurd (tells)
    damaged status.Usage dev at tells quiet unsound first = absurd (tells)
    damaged status.ReadFault dev at tells quiet unsound first = absurd (tells)
    damaged status.WriteFault dev at tells quiet unsound first = absurd (tells)
    damaged status.Device dev at tells quiet unsound first = absurd (tells)

    pub answers_unread : (n : Refusal) (s : Status) → TellsUnopened n s sink sink'
        → (n ≡ R.Failed) ⊎ ((n ≡ R.Memory) ⊎ ((dev : ℕ) × (at : ℕ) × (n ≡ R.Damaged dev at)))
        → (n ≡ R.Failed → Rises (tell.faults rig) (tell.faults rig')) → ((n ≡ R.Failed → ⊥) → tell.faults rig' ≡ tell.faults rig)
        → ((dev at : ℕ) → n ≡ R.Damaged dev at → DevicesAreSound (tell.seen rig) → ⊥)
        → ((dev at : ℕ) → n ≡ R.Damaged dev at → FailsFirstAt (tell.seen rig) dev at) → Tells s
    answers_unread n s tells either cause quiet unsound first = ⊎_elim
        (λ is. let told : TellsUnopened R.Failed s sink sink' = subst (λ (x : Refusal). TellsUnopened x s sink sink') is tells in
        as_told s status.Device told.0 (
          record { lines = lines; script = script; fails = inl (record { read = read; faults = cause is }); written = told.1 },
          refl,
        ))
        (λ rest. ⊎_elim
        (λ is. let told : TellsUnopened R.Memory s sink sink' = subst (λ (x : Refusal). TellsUnopened x s sink sink') is tells in
        as_told s status.NoMemory told.0 (out_of_memory (quiet (λ f. let no : R.Memory ≡ R.Failed = sym is ∙ f in absurd (cc))) told.1))
        (λ h. let told : TellsUnopened (R.Damaged h.0 h.1) s sink sink' = subst (λ (x : Refusal). TellsUnopened x s sink sink') h.2 tells in
        damaged s h.0 h.1 told (quiet (λ f. let no : R.Damaged h.0 h.1 ≡ R.Failed = sym h.2 ∙ f in absurd (cc)))
        (unsound h.0 h.1 h.2) (first h.0 h.1 h.2))
        rest)
        either

-- ---- all of it

-- the same of equal ones
pub answers_same : {G : Type 0} (tell : Telling G) (asked : Request) (text : List ℕ) (old : Ends G) (s s' : Status) (sink sink' : SinkSide) (rig rig' : G)
    (book book' : Option History) (bad bad' : Option BadLine) → s' ≡ s → sink' ≡ sink → rig' ≡ rig → book' ≡ book → bad' ≡ bad
    → Answers tell asked s text old (record { sink = sink; rig = rig }) book bad
    → Answers tell asked s' text old (record { sink = sink'; rig = rig' }) book' bad'
answers_same tell asked text old s s' sink sink' rig rig' book book' bad bad' is k r b f answers =
    subst (λ (x : Status). Answers tell asked x text old (record { sink = sink'; rig = rig' }) book' bad') (sym is)
    (subst (λ (x : SinkSide). Answers tell asked s text old (record { sink = x; rig = rig' }) book' bad') (sym k)
    (subst (λ x. Answers tell asked s text old (record { sink = sink; rig = x }) book' bad') (sym r)
    (subst (λ (x : Option History). Answers tell asked s text old (record { sink = sink; rig = rig }) x bad') (sym b)
    (subst (λ (x : Option BadLine). Answers tell asked s text old (record { sink = sink; rig = rig }) book x) (sym f) answers))))

-- ---- a bad line

module _ {G : Type 0} (tell : Telling G) (asked : Request) (text : List ℕ) (sink sink' : SinkSide) (rig rig' : G) (book : Option History)
    (same : rig' ≡ rig) (none : book ≡ None) where
  -- it is told, and handed back
  pub answers_bad : (bad : BadLine) (s : Status) (back : Option BadLine) → IsBadAt text bad.line bad.cause
      → bad.bytes.items ≡ line_at text bad.line → WrittenUnless sink (bad_text bad.line bad.cause) sink' → s ≡ status.BadLine
      → back ≡ Some bad → Answers tell asked s text (record { sink = sink; rig = rig }) (record { sink = sink'; rig = rig' }) book back
  answers_bad bad s back at bytes written is handed =
      subst (λ (x : Status). Answers tell asked x text (record { sink = sink; rig = rig }) (record { sink = sink'; rig = rig' }) book back) (sym is) (
        subst (λ (b : Option BadLine). WritesFirst text b sink sink') (sym handed) (record { at = at; bytes = bytes }, written),
        none,
        same,
      )

  -- or there is no memory for it
  pub answers_untold : (line : ℕ) (cause : LineError) (s : Status) (back : Option BadLine) → TellsBad s line cause sink sink'
      → (s ≡ status.BadLine → ⊥) → Answers tell asked s text (record { sink = sink; rig = rig }) (record { sink = sink'; rig = rig' }) book back
  answers_untold line cause status.NoMemory back tells fine =
      (subst (λ (b : Option History). IsPartial tell text rig rig' b) (sym none) (inl same), tells)
  answers_untold line cause status.BadLine back tells fine = absurd (fine refl)
  answers_untold line cause status.Done back tells fine = absurd (tells)
  answers_untold line cause status.Usage back tells fine = absurd (tells)
  answers_untold line cause status.ReadFault back tells fine = absurd (tells)
  answers_untold line cause status.WriteFault back tells fine = absurd (tells)
  answers_untold line cause status.Damaged back tells fine = absurd (tells)
  answers_untold line cause status.Device back tells fine = absurd (tells)

-- a source that tells its bytes gave them all, where they are a script
gave_all : (source source' : SourceSide) (got text : List ℕ) → Gave source source' got → source.left ≡ Some text → length text ≤ 4194304 → got ≡ text
gave_all source source' got text gave is most = told source.left is gave.taken where
  told : (left : Option (List ℕ)) → left ≡ Some text → Taken left got source'.left → got ≡ text
  told None is taken = absurd (cc)
  told (Some all) is (rest, parts, after) =
      let same : all ≡ text = cc in
      let sum : length all ≡ length got + length rest = ap length parts ∙ length-append got rest in
      let few : length got < 4194305 = omega (arith, sum, most, ap length same) in
      let none : rest ≡ [] = subst IsAtEnd after (gave.whole few) in
      sym (append-nil got) ∙ ap (λ (l : List ℕ). got ++ l) (sym none) ∙ sym parts ∙ same

-- the text of a run is the one that was due, where that is a script
due_text : (asked : Request) (source source' : SourceSide) (got text : List ℕ) → GivesText asked source source' got
    → IsDue asked source.left text → length text ≤ 4194304 → got ≡ text
due_text want.Replay source source' got text gave due most = gave_all source source' got text gave due most
due_text (want.Gen number count) source source' got text gave due most = gave ∙ sym due

-- the line that was handed back is bad
bad_line_in : (text : List ℕ) (bad : Option BadLine) (sink sink' : SinkSide) → WritesFirst text bad sink sink'
    → (line : ℕ) × (cause : LineError) × IsBadAt text line cause
bad_line_in text None sink sink' w = absurd w
bad_line_in text (Some bad) sink sink' w = (bad.line, bad.cause, w.0.at)

-- a script has no bad line
no_bad : (asked : Request) (source source' : SourceSide) (text : List ℕ) (lines : List Line) → IsDue asked source.left text
    → IsScript text lines → (got : List ℕ) → GivesText asked source source' got → (line : ℕ) × (cause : LineError) × IsBadAt got line cause → ⊥
no_bad asked source source' text lines due script got gave bad =
    let same : got ≡ text = due_text asked source source' got text gave due (script_ends text lines script) in
    no_bad_script text lines bad.0 bad.1 script (subst (λ (t : List ℕ). IsBadAt t bad.0 bad.1) same bad.2)

-- no line is bad where a number gives the text
pub fine_of_number : {G : Type 0} (tell : Telling G) (number count : ℕ) (s : Status) (source source' : SourceSide) (old new : Ends G)
    (book : Option History) (bad : Option BadLine) → count ≤ 2000 → Outcome tell (want.Gen number count) s source source' old new book bad
    → s ≡ status.BadLine → ⊥
fine_of_number tell number count s source source' old new book bad few outcome is =
    let (text, gives, answers) = subst (λ (x : Status). Outcome tell (want.Gen number count) x source source' old new book bad) is outcome in
    let (line, cause, at) = bad_line_in text bad old.sink new.sink answers.0 in
    let (lines, script) = generated number count few in
    no_bad_script (gen_text number count) lines line cause script (subst (λ (t : List ℕ). IsBadAt t line cause) gives at)

-- what is said of a text is said of the call that had it
pub outcome_of : {G : Type 0} (tell : Telling G) (asked : Request) (s : Status) (source source' : SourceSide) (old new : Ends G) (book : Option History) (bad : Option BadLine)
    (text : List ℕ) → GivesText asked source source' text → Answers tell asked s text old new book bad → Outcome tell asked s source source' old new book bad
outcome_of tell asked status.Done source source' old new book bad text gives answers = (text, gives, answers)
outcome_of tell asked status.BadLine source source' old new book bad text gives answers = (text, gives, answers)
outcome_of tell asked status.WriteFault source source' old new book bad text gives answers = (text, gives, answers)
outcome_of tell asked status.Damaged source source' old new book bad text gives answers = (text, gives, answers)
outcome_of tell asked status.Device source source' old new book bad text gives answers = (text, gives, answers)
outcome_of tell asked status.NoMemory source source' old new book bad text gives answers = inr (text, gives, answers)
outcome_of tell asked status.Usage source source' old new book bad text gives answers = absurd answers
outcome_of tell asked status.ReadFault source source' old new book bad text gives answers = absurd answers

-- nothing was begun, for want of memory
pub answers_unbegun : {G : Type 0} (tell : Telling G) (asked : Request) (s : Status) (source source' : SourceSide) (old new : Ends G) (book : Option History) (bad : Option BadLine)
    → s ≡ status.NoMemory → book ≡ None → new.sink.written ≡ old.sink.written → new.rig ≡ old.rig → Outcome tell asked s source source' old new book bad
answers_unbegun tell asked s source source' old new book bad is none kept same =
    subst (λ (x : Status). Outcome tell asked x source source' old new book bad) (sym is) (inl (none, kept, same))

-- nothing was taken
pub untaken : (left : Option (List ℕ)) → (text : List ℕ) × (length text ≤ 4194305) × Taken left text left
untaken None = ([], omega arith, refl)
untaken (Some left) = ([], omega arith, (left, refl, refl))

-- the words of a command aren't told as faulty
pub tells_no_usage : {G : Type 0} (tell : Telling G) (asked : Request) (s : Status) (source source' : SourceSide) (old new : Ends G) (book : Option History) (bad : Option BadLine)
    → Outcome tell asked s source source' old new book bad → s ≡ status.Usage → ⊥
tells_no_usage tell asked s source source' old new book bad outcome is =
    subst (λ (x : Status). Outcome tell asked x source source' old new book bad) is outcome

pub completes : {G : Type 0} (tell : Telling G) (asked : Request) (s : Status) (source source' : SourceSide) (old new : Ends G) (book : Option History) (bad : Option BadLine) (text : List ℕ)
    (lines : List Line) → Outcome tell asked s source source' old new book bad → IsDue asked source.left text → IsScript text lines → DevicesAreSound (tell.seen old.rig)
    → (ReadFails asked source.faults source'.faults → ⊥) → (Rises old.sink.faults new.sink.faults → ⊥)
    → (s ≡ status.Done) ⊎ ((s ≡ status.NoMemory) ⊎ (s ≡ status.Device))
completes tell asked status.Done source source' old new book bad text lines outcome is script sound reads writes = inl refl
completes tell asked status.NoMemory source source' old new book bad text lines outcome is script sound reads writes = inr (inl refl)
completes tell asked status.Usage source source' old new book bad text lines outcome is script sound reads writes = absurd (outcome)
completes tell asked status.ReadFault source source' old new book bad text lines outcome is script sound reads writes = absurd (reads outcome.0)
completes tell asked status.WriteFault source source' old new book bad text lines outcome is script sound reads writes =
    let (got, gave, run) = outcome in
    let (ls, history, world, replays, cut) = run in
    absurd (writes cut.failed)
completes tell asked status.BadLine source source' old new book bad text lines outcome is script sound reads writes =
    absurd (no_bad asked source source' text lines is script outcome.0 outcome.1 (bad_line_in outcome.0 bad old.sink new.sink outcome.2.0))
completes tell asked status.Damaged source source' old new book bad text lines outcome is script sound reads writes =
    absurd (outcome.2.0.unsound sound)
completes tell asked status.Device source source' old new book bad text lines outcome is script sound reads writes = inr (inr refl)

-- devices are told damaged where they aren't sound alone
pub tells_unsound : {G : Type 0} (tell : Telling G) (asked : Request) (s : Status) (source source' : SourceSide) (old new : Ends G) (book : Option History) (bad : Option BadLine)
    → Outcome tell asked s source source' old new book bad → s ≡ status.Damaged → DevicesAreSound (tell.seen old.rig) → ⊥
tells_unsound {G} tell asked s source source' old new book bad outcome is =
    let told : Outcome tell asked status.Damaged source source' old new book bad =
    subst (λ (x : Status). Outcome tell asked x source source' old new book bad) is outcome in
    told.2.0.unsound

-- and a script that meets such tells it
pub damages : {G : Type 0} (tell : Telling G) (asked : Request) (s : Status) (source source' : SourceSide) (old new : Ends G) (book : Option History) (bad : Option BadLine) (text : List ℕ)
    (lines : List Line) → Outcome tell asked s source source' old new book bad → IsDue asked source.left text → IsScript text lines
    → (DevicesAreSound (tell.seen old.rig) → ⊥)
    → (ReadFails asked source.faults source'.faults → ⊥)
    → (s ≡ status.Damaged) ⊎ ((s ≡ status.NoMemory) ⊎ (s ≡ status.Device))
damages tell asked status.Damaged source source' old new book bad text lines outcome is script unsound reads = inl refl
damages tell asked status.NoMemory source source' old new book bad text lines outcome is script unsound reads = inr (inl refl)
damages tell asked status.Usage source source' old new book bad text lines outcome is script unsound reads = absurd (outcome)
damages tell asked status.ReadFault source source' old new book bad text lines outcome is script unsound reads = absurd (reads outcome.0)
damages tell asked status.Done source source' old new book bad text lines outcome is script unsound reads =
    let (got, gave, run) = outcome in
    let (ls, history, world, replays, told) = run in
    absurd (unsound replays.led.opens.sound)
damages tell asked status.WriteFault source source' old new book bad text lines outcome is script unsound reads =
    let (got, gave, run) = outcome in
    let (ls, history, world, replays, cut) = run in
    absurd (unsound replays.led.opens.sound)
damages tell asked status.BadLine source source' old new book bad text lines outcome is script unsound reads =
    absurd (no_bad asked source source' text lines is script outcome.0 outcome.1 (bad_line_in outcome.0 bad old.sink new.sink outcome.2.0))
damages tell asked status.Device source source' old new book bad text lines outcome is script unsound reads = inr (inr refl)

-- ---- what was asked for

-- the words ask for one thing
pub other_asked : {G : Type 0} (tell : Telling G) (asked asked' : Request) (s : Status) (source source' : SourceSide) (old new : Ends G)
    (book : Option History) (bad : Option BadLine) → Some asked ≡ Some asked' → Outcome tell asked s source source' old new book bad
    → Outcome tell asked' s source source' old new book bad
other_asked tell asked asked' s source source' old new book bad same outcome =
    let is : asked ≡ asked' = cc in subst (λ (a : Request). Outcome tell a s source source' old new book bad) is outcome

-- the same, where what was asked for is told by its variant
pub asked_as : {G : Type 0} (tell : Telling G) (asked variant : Request) (s : Status) (source source' : SourceSide) (old new : Ends G)
    (book : Option History) (bad : Option BadLine) → asked ≡ variant → Outcome tell variant s source source' old new book bad
    → Outcome tell asked s source source' old new book bad
asked_as tell asked variant s source source' old new book bad is outcome =
    subst (λ (a : Request). Outcome tell a s source source' old new book bad) (sym is) outcome

pub unread_by : (asked variant : Request) (source source' : SourceSide) → asked ≡ variant → IsUnread variant source source'
    → IsUnread asked source source'
unread_by asked variant source source' is unread = subst (λ (a : Request). IsUnread a source source') (sym is) unread

pub unread_as : (asked asked' : Request) (source source' : SourceSide) → Some asked ≡ Some asked' → IsUnread asked source source'
    → IsUnread asked' source source'
unread_as asked asked' source source' same unread =
    let is : asked ≡ asked' = cc in subst (λ (a : Request). IsUnread a source source') is unread

pub unread_same : (asked : Request) (source : SourceSide) → IsUnread asked source source
unread_same want.Replay source = tt
unread_same (want.Gen number count) source = refl

pub is_command : (words : List Text) (asked : Request) → asked_of words ≡ Some asked → IsCommand words
is_command words asked is = subst (λ (o : Option Request). IsSome o) (sym is) refl

pub no_command : (words : List Text) → asked_of words ≡ None → IsCommand words → ⊥
no_command words none command = let here : IsSome {T = Request} None = subst (λ (o : Option Request). IsSome o) none command in absurd (cc)

pub never_both : {o : Option Request} {asked : Request} → o ≡ None → o ≡ Some asked → ⊥
never_both none due = absurd (cc)
