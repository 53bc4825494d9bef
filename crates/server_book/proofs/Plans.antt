-- The plans of commands, and what a plan does after a past.
use Rattle.std.proofs.Common.{◌≡◌, ◌<◌, ◌^◌, ℕ, List, [], ◌∷◌, Result, Ok, Err, refl, ap, sym}
use Rattle.std.proofs.Common.{subst, ◌∙◌, Bool, true, false, cond, arith, Option, None, Some}
use Rattle.std.specs.Prelude.{◌&&◌, IfOk, IfSome, OnErr, codes, is_some, not}
use Rattle.resp_value.specs.declared.octets.NoMemory as memory
use Rattle.resp_value.specs.declared.value.Value.{Value}
use Rattle.resp_value.specs.declared.value.Value.TheVariants.{Error}
use Rattle.command_words.specs.declared.command.Command.{Command}
use Rattle.command_words.specs.declared.command.Command.TheVariants.{ClientTracking}
use Rattle.command_words.specs.declared.command.Signalled.{Signalled}
use Rattle.command_words.specs.declared.command.Signalled.TheVariants.{Keys, All}
use Rattle.command_words.specs.declared.command.TrackOptions.{TrackOptions}
use Rattle.command_words.specs.Effect as effects
use Rattle.command_words.specs.Effect.{replied}
use Rattle.command_words.specs.Effects.{effect, has_row}
use Rattle.command_words.specs.Expiry.{without_due}
use Rattle.command_words.specs.Queries.{read}
use Rattle.command_words.specs.declared.command.WordFault.{WordFault}
use Rattle.command_words.specs.declared.command.WordFault.TheVariants.{Unknown}
use Rattle.command_words.specs.Reading.{IsReading}
use Rattle.command_words.specs.Space.{Space}
use Rattle.command_words.specs.Words.{reading}
use Rattle.command_set.specs.Runs.{AreDue, taken_back}
use Rattle.serial_model.specs.declared.history.Entry.{Entry}
use Rattle.serial_model.specs.declared.history.Limits.{Limits}
use Rattle.track_modes.specs.declared.fault.ModeFault.{ModeFault}
use Rattle.track_modes.specs.declared.tracking.Tracking.{Tracking}
use Rattle.track_modes.specs.Commands.{after_refusal, allows, changed, ended, fault_at, spent_mode}
use Rattle.track_modes.specs.ModeState.{ModeState, redirect_of, remembers_read}
use Rattle.track_modes.specs.Tracked.{tracked, tracking_fault}
use Rattle.serial_model.specs.Deadlines.{due_keys}
use Rattle.serial_model.specs.Modes.{Ending, Memory, Remembers, Runner, OwnEffect, Stays}
use Rattle.serial_model.specs.Modes.{ending_of, is_barred, is_stopping, own_effect, refused_effect}
use Rattle.serial_model.specs.Modes.{target_in, target_of, unless_refused}
use Rattle.serial_model.specs.Actions.{Action}
use Rattle.serial_model.specs.State.{State}
use Rattle.serial_model.specs.Tracking.{AreApart}
use Rattle.serial_model.specs.History.{is_served, served, served_reading, ran_over, made_of}
use Rattle.serial_model.specs.History.{run_action, state, effect_of, keyspace, runner_in, is_target}
use Rattle.serial_model.specs.History.{ending_in, is_broken_then}
use Rattle.serial_model.proofs.DueKeys.{due_by_index}
use Rattle.serial_model.proofs.ServedRows.{data_effect, data_own, row_of, signalled_keys}
use Rattle.serial_model.proofs.ServedRows.{reads_or_writes}
use Rattle.server_book.specs.declared.deed.Deed.TheVariants.{Nothing, Remember}
use Rattle.server_book.specs.declared.plan.Caller.{Caller}
use Rattle.server_book.specs.declared.plan.Plan.{Plan}
use Rattle.server_book.specs.declared.plan.Played.{Played}
use Rattle.server_book.specs.Places.{HasNumber}
use Rattle.server_book.specs.Plans.{IsPlan, IsPlanOf, IsQuiet, IsSound, LeavesKeys, PlansRead}
use Rattle.server_book.specs.Plans.{PlansWords, answered, asks_broken, signals_of, memory_of}
use Rattle.server_book.specs.Plans.{deed_for, ending_by, mode_by, runner}
use Rattle.server_book.specs.Played.{HasPlayed, HasRow, IsPlayed}

-- what follows for a plan follows where there is one
pub if_planned : (r : Result Plan memory.NoMemory) (P Q : Plan → Type 0) → ((p : Plan) → P p → Q p)
    → IfOk r P → IfOk r Q
if_planned r P Q more h = grind arith

-- the plan of a fault, where the words read so
pub fault_planned : (r : Result Plan memory.NoMemory) (by : Runner) (words : List (List ℕ))
    (fault : WordFault) (read : Result Command WordFault)
    → IfOk r (λ p. (read : Result Command WordFault) (s : Space) (m : ℕ)
    → IsReading (Err fault) read → IsQuiet p by words read s m)
    → IsReading (Err fault) read
    → IfOk r (λ p. (s : Space) (m : ℕ) → IsQuiet p by words read s m)
fault_planned r by words fault read h e =
    if_planned r _ _ (λ p all s m. all read s m e) h

-- the plan of a command, where the words read so
pub command_planned : (r : Result Plan memory.NoMemory) (by : Runner) (words : List (List ℕ))
    (command : Command) (read : Result Command WordFault)
    → IfOk r (λ p. IsPlanOf p by command)
    → read ≡ Ok command
    → IfOk r (λ p. (s : Space) (m : ℕ) → IsQuiet p by words read s m)
command_planned r by words command read h e =
    if_planned r _ _ (λ p all s m. subst (λ x. IsQuiet p by words x s m) (sym e)
    (all words s m)) h

pub row_is : (c : Command) → has_row c ≡ true → served (Ok c) ≡ Ok c
row_is c h = grind arith

-- ---- the keys that are due

pub due_is : (moment : ℕ) (space : Space) (keys : List (List ℕ)) → AreDue moment space keys
    → keys ≡ due_keys moment space
due_is moment space keys h = grind (arith, due_by_index)

-- ---- the deed of a data command

module _ (remembers : Bool) (c : Command) (space : Space) (moment : ℕ)
    (data_is : has_row c ≡ true) (reads : List (List ℕ))
    (reads_is : reads ≡ cond remembers (read c) []) where
  does : effects.Effect
  does = effect c space moment

  deed_signals : (sig : Signalled) → signals_of (deed_for remembers reads sig) ≡ sig
  deed_signals sig = grind arith

  reads_none : (does.signalled ≡ Keys [] → ⊥) → read c ≡ []
  unfolding does
  reads_none some = grind (arith, reads_or_writes)

  no_reads : read c ≡ [] → ◌≡◌ {A = Memory} (Remembers []) (Remembers (cond remembers (read c) []))
  no_reads none = grind arith

  deed_memory : (sig : Signalled) → does.signalled ≡ sig
      → memory_of (deed_for remembers reads sig) ≡ Remembers (cond remembers (read c) [])
  deed_memory sig is = grind (arith, no_reads, reads_none)

  deed_sound : (sig : Signalled) → does.signalled ≡ sig → IsSound (deed_for remembers reads sig)
  unfolding does
  deed_sound (Keys []) is =
      elim remembers as (λ b. IsSound (cond b (Remember reads) Nothing)) [ true ↦ tt | false ↦ tt ]
  deed_sound (Keys (key ∷ keys)) is =
      subst (λ sig. AreApart (signalled_keys sig)) is (row_of c space moment data_is).apart
  deed_sound All is = tt

-- a data command spends its connection's mark, and ends nobody
deed_spends : (remembers : Bool) (reads : List (List ℕ)) (sig : Signalled) (mode : ModeState)
    → mode_by (deed_for remembers reads sig) mode ≡ spent_mode mode
deed_spends remembers reads sig mode = grind arith

deed_stays : (remembers : Bool) (reads : List (List ℕ)) (sig : Signalled)
    → ending_by (deed_for remembers reads sig) ≡ Stays
deed_stays remembers reads sig = grind arith

data_ends_none : (c : Command) → has_row c ≡ true → ending_of (Ok c) ≡ Stays
data_ends_none c h = grind arith

-- what is answered where these end
abbrev replied_if : Ending → Value → Option Value
replied_if ends reply = cond (is_stopping ends) None (Some reply)

-- what the command replies and signals is its plan
data_planned : (p : Plan) (by : Runner) (words : List (List ℕ)) (c : Command) (space : Space)
    (moment : ℕ) (signalled : Signalled) (reads : List (List ℕ)) → has_row c ≡ true
    → reads ≡ cond (remembers_read by.mode) (read c) []
    → p.reply ≡ Some (effect c space moment).reply
    → signalled ≡ (effect c space moment).signalled
    → p.deed ≡ deed_for (remembers_read by.mode) reads signalled → p.proto ≡ by.mode.proto
    → PlansRead p by words (Ok c) space moment
unfolding does
data_planned p by words c space moment signalled reads data_is reads_is reply signals deed proto =
    let t = remembers_read by.mode in
    let sig = (effect c space moment).signalled in
    let is = deed ∙ ap (deed_for t reads) signals in
    let same = data_effect by words c space moment data_is in
    let own = data_own c by data_is in record {
      reply =
          reply ∙ sym (ap (λ (e : effects.Effect). Some e.reply) same)
          ∙ sym (ap (λ x. replied_if x (effect_of by words (Ok c) space moment).reply)
          (data_ends_none c data_is));
      signals =
          ap signals_of is ∙ deed_signals t c space moment data_is reads reads_is sig
          ∙ sym (ap (λ (e : effects.Effect). e.signalled) same);
      memory =
          ap memory_of is ∙ deed_memory t c space moment data_is reads reads_is sig refl
          ∙ sym (ap (λ (o : OwnEffect). o.memory) own);
      mode =
          ap (λ d. mode_by d by.mode) is ∙ deed_spends t reads sig by.mode
          ∙ sym (ap (λ (o : OwnEffect). o.mode) own);
      ending = ap ending_by is ∙ deed_stays t reads sig ∙ sym (data_ends_none c data_is);
      proto = proto ∙ sym (ap (λ (o : OwnEffect). o.mode.proto) own);
      sound =
          subst IsSound (sym is)
          (deed_sound t c space moment data_is reads reads_is sig refl);
    }

pub data_played : (p : Played) (by : Runner) (c : Command)
    (old new : Space) (moment : ℕ) (signalled : Signalled) (reads : List (List ℕ))
    → has_row c ≡ true → reads ≡ cond (remembers_read by.mode) (read c) []
    → AreDue moment old p.expired
    → p.plan.reply ≡ Some (effect c (without_due moment old) moment).reply
    → signalled ≡ (effect c (without_due moment old) moment).signalled
    → new ≡ (effect c (without_due moment old) moment).space
    → p.plan.deed ≡ deed_for (remembers_read by.mode) reads signalled
    → p.plan.proto ≡ by.mode.proto
    → taken_back p.undo new ≡ old
    → HasRow by c moment p old new
data_played p by c old new moment signalled reads data_is reads_is due reply signals space
    deed proto back = record {
      expired = due_is moment old p.expired due;
      plan = λ words.
          data_planned p.plan by words c (without_due moment old) moment signalled reads data_is
          reads_is reply signals deed proto;
      space = space;
      undo = back;
    }

-- ---- whether the mode allows what words are served as

-- equal doings have the same plan
plan_as : (p : Plan) (m : ModeState) (d e : effects.Effect) (o q : OwnEffect) (a b : Ending)
    → e ≡ d → q ≡ o → b ≡ a → IsPlan p m d o a → IsPlan p m e q b
plan_as p m d e o q a b does makes ending h = record {
  reply =
      h.reply ∙ sym (ap (λ (x : effects.Effect). replied_if a x.reply) does)
      ∙ sym (ap (λ x. replied_if x e.reply) ending);
  signals = h.signals ∙ sym (ap (λ (x : effects.Effect). x.signalled) does);
  memory = h.memory ∙ sym (ap (λ (x : OwnEffect). x.memory) makes);
  mode = h.mode ∙ sym (ap (λ (x : OwnEffect). x.mode) makes);
  ending = h.ending ∙ sym ending;
  proto = h.proto ∙ sym (ap (λ (x : OwnEffect). x.mode.proto) makes);
  sound = h.sound;
}

abbrev refused : Space → effects.Effect
refused space = replied (Error (codes "ERR not allowed while subscribed")) space

module _ (by : Runner) (words : List (List ℕ)) (r : Result Command WordFault)
    (is : served_reading words ≡ r) (space : Space) (moment : ℕ) where
  ran_by : (b : Bool) → is_barred by.mode r ≡ b
      → ran_over space by words moment
      ≡ cond b (refused space) (effect_of by words r space moment)
  unfolding ran_over
  ran_by b e =
      ap (λ x. cond (is_barred by.mode x) (refused space) (effect_of by words x space moment)) is
      ∙ ap (λ x. cond x (refused space) (effect_of by words r space moment)) e

  made_by : (b : Bool) → is_barred by.mode r ≡ b
      → made_of words by ≡ cond b (refused_effect by.mode) (own_effect r by)
  unfolding made_of
  made_by b e =
      ap (λ x. cond (is_barred by.mode x) (refused_effect by.mode) (own_effect x by)) is
      ∙ ap (λ x. cond x (refused_effect by.mode) (own_effect r by)) e

  ends_by : (b : Bool) → is_barred by.mode r ≡ b
      → ending_in by.mode (served_reading words) ≡ cond b Stays (ending_of r)
  ends_by b e = ap (ending_in by.mode) is ∙ ap (λ x. cond x Stays (ending_of r)) e

  plans_allowed : (p : Plan) → is_barred by.mode r ≡ false → PlansRead p by words r space moment
      → PlansWords p by words space moment
  plans_allowed p free h =
      plan_as p by.mode (effect_of by words r space moment) (ran_over space by words moment)
      (own_effect r by) (made_of words by) (ending_of r)
      (ending_in by.mode (served_reading words))
      (ran_by false free) (made_by false free) (ends_by false free) h

  pub words_allowed : (p : Plan) → is_barred by.mode r ≡ false → IsQuiet p by words r space moment
      → LeavesKeys p by words space moment
  words_allowed p free h = record {
    planned = plans_allowed p free h.planned;
    stays = ap (λ (e : effects.Effect). e.space) (ran_by false free) ∙ h.stays;
  }

  pub words_barred : (p : Plan) → is_barred by.mode r ≡ true
      → p ≡ answered by.mode (Error (codes "ERR not allowed while subscribed"))
      → LeavesKeys p by words space moment
  words_barred p barred h =
      let ran = ran_by true barred in
      let made = made_by true barred in record {
        planned = record {
          reply =
              ap (λ (x : Plan). x.reply) h ∙ sym (ap (λ (e : effects.Effect). Some e.reply) ran)
              ∙ sym (ap (λ x. replied_if x (ran_over space by words moment).reply)
              (ends_by true barred));
          signals =
              ap (λ (x : Plan). signals_of x.deed) h
              ∙ sym (ap (λ (e : effects.Effect). e.signalled) ran);
          memory =
              ap (λ (x : Plan). memory_of x.deed) h ∙ sym (ap (λ (o : OwnEffect). o.memory) made);
          mode =
              ap (λ (x : Plan). mode_by x.deed by.mode) h
              ∙ sym (ap (λ (o : OwnEffect). o.mode) made);
          ending = ap (λ (x : Plan). ending_by x.deed) h ∙ sym (ends_by true barred);
          proto =
              ap (λ (x : Plan). x.proto) h ∙ sym (ap (λ (o : OwnEffect). o.mode.proto) made);
          sound = subst (λ (x : Plan). IsSound x.deed) (sym h) tt;
        };
        stays = ap (λ (e : effects.Effect). e.space) ran;
      }

pub barred_is : (m : ModeState) (c : Command)
    → is_barred m (served (Ok c)) ≡ (is_served c && not (allows m c))
barred_is m c =
    elim (is_served c) as (λ b. is_barred m (cond b (Ok c) (Err Unknown))
    ≡ (b && not (allows m c))) [
      | true ↦ refl
      | false ↦ refl
    ]

-- words that read as a command are served as it
pub command_read : (words : List (List ℕ)) (c : Command) → reading words ≡ Ok c
    → served_reading words ≡ served (Ok c)
command_read words c h = ap served h

pub fault_reads : (fault : WordFault) → IsReading {A = Command} (Err fault) (Err fault)
fault_reads fault = grind arith

-- a plan of words that leave the keyspace, beside the keys that are due
pub quiet_played : (p : Played) (by : Runner) (words : List (List ℕ)) (m : ℕ) (old new : Space)
    → LeavesKeys p.plan by words (without_due m old) m → new ≡ without_due m old
    → p.expired ≡ due_keys m old → taken_back p.undo new ≡ old
    → HasPlayed by words m p old new
quiet_played p by words m old new h space due back = record {
  expired = due;
  plan = h.planned;
  space = space ∙ sym h.stays;
  undo = back;
}

pub row_played : (p : Played) (by : Runner) (words : List (List ℕ)) (c : Command) (m : ℕ)
    (old new : Space) → reading words ≡ Ok c → has_row c ≡ true
    → allows by.mode c ≡ true → HasRow by c m p old new → HasPlayed by words m p old new
row_played p by words c m old new read row free h =
    let is : served_reading words ≡ Ok c = command_read words c read ∙ row_is c row in
    let allowed : is_barred by.mode (Ok c) ≡ false = ap not free in
    let left = without_due m old in record {
      expired = h.expired;
      plan = plans_allowed by words (Ok c) is left m p.plan allowed (h.plan words);
      space =
          h.space
          ∙ sym (ap (λ (e : effects.Effect). e.space) (data_effect by words c left m row))
          ∙ sym (ap (λ (e : effects.Effect). e.space) (ran_by by words (Ok c) is left m false
          allowed));
      undo = h.undo;
    }

pub row_plays : (r : Result Played memory.NoMemory) (by : Runner) (words : List (List ℕ))
    (c : Command) (m : ℕ) (old new : Space) → reading words ≡ Ok c → has_row c ≡ true
    → allows by.mode c ≡ true → IfOk r (λ p. HasRow by c m p old new) → OnErr r (new ≡ old)
    → IsPlayed by words m r old new
row_plays (Ok p) by words c m old new read row free h back =
    row_played p by words c m old new read row free h
row_plays (Err e) by words c m old new read row free h back = back

pub none_where : {A : Type 0} (o : Option A) → is_some o ≡ false → o ≡ None
none_where o h = grind arith

-- ---- a plan does what the words do after the past

-- but for those who ask, it is no matter whether a redirection is broken
flag_apart : (by : Runner) (b : Bool) (words : List (List ℕ)) (r : Result Command WordFault)
    (space : Space) (m : ℕ) → asks_broken r ≡ false
    → effect_of (record by { is_broken = b }) words r space m ≡ effect_of by words r space m
flag_apart by b words r space m h = grind arith

own_apart : (by : Runner) (b : Bool) (r : Result Command WordFault)
    → own_effect r (record by { is_broken = b }) ≡ own_effect r by
own_apart by b (Ok c) = refl
own_apart by b (Err f) = refl

module _ (words : List (List ℕ)) (by other : Runner)
    (same : record by { is_broken = other.is_broken } ≡ other)
    (asked : asks_broken (served_reading words) ≡ true → by.is_broken ≡ other.is_broken) where
  ran_same : (space : Space) (m : ℕ)
      → ran_over space by words m ≡ ran_over space other words m
  unfolding ran_over
  ran_same space m =
      let r = served_reading words in
      ap (λ x. cond (is_barred by.mode r) (refused space) x)
      (elim (asks_broken r) as (λ b. asks_broken r ≡ b
      → effect_of by words r space m
      ≡ effect_of (record by { is_broken = other.is_broken }) words r space m) [
        | true ↦ λ e. ap (λ x. effect_of (record by { is_broken = x }) words r space m) (asked e)
        | false ↦ λ e. sym (flag_apart by other.is_broken words r space m e)
      ] refl)
      ∙ ap (λ (x : Runner). cond (is_barred x.mode r) (refused space)
      (effect_of x words r space m)) same

  made_same : made_of words by ≡ made_of words other
  unfolding made_of
  made_same =
      let r = served_reading words in
      ap (λ x. cond (is_barred by.mode r) (refused_effect by.mode) x)
      (sym (own_apart by other.is_broken r))
      ∙ ap (λ (x : Runner). cond (is_barred x.mode r) (refused_effect x.mode) (own_effect r x))
      same

module _ (l : Limits) (past : List Entry) (words : List (List ℕ)) (m id : ℕ) where
  abbrev s : State
  s = state l past

  abbrev t : Action
  t = run_action id words m s

  abbrev runs_as : Runner
  runs_as = runner_in s id words m

  -- who runs the words is who ran them
  pub record Calls (caller : Caller) (mode : ModeState) : Type 0 where
    pub id_is : caller.id ≡ id
    pub mode_is : mode ≡ s.modes id
    pub target : caller.target_exists ≡ is_target s (target_of (served_reading words))
    pub broken : asks_broken (served_reading words) ≡ true
        → caller.is_broken ≡ is_broken_then s id m

  same_runner : (caller : Caller) (mode : ModeState) → Calls caller mode
      → record (runner caller mode) { is_broken = runs_as.is_broken } ≡ runs_as
  same_runner caller mode h =
      let flag = runs_as.is_broken in
      ap (λ x. record {
        id = x;
        mode = mode;
        is_broken = flag;
        target_exists = caller.target_exists;
      }) h.id_is
      ∙ ap (λ x. record {
        id = id;
        mode = x;
        is_broken = flag;
        target_exists = caller.target_exists;
      }) h.mode_is
      ∙ ap (λ x. record {
        id = id;
        mode = s.modes id;
        is_broken = flag;
        target_exists = x;
      }) h.target

  pub plan_runs : (p : Played) (old new : Space) (caller : Caller) (mode : ModeState)
      → HasPlayed (runner caller mode) words m p old new → Calls caller mode
      → old ≡ keyspace l past
      → (p.expired ≡ t.expired)
      × (p.plan.reply ≡ t.effect.reply)
      × (new ≡ t.effect.space)
      × (signals_of p.plan.deed ≡ t.effect.signalled)
      × (memory_of p.plan.deed ≡ t.effect.memory)
      × (mode_by p.plan.deed (s.modes id) ≡ t.effect.mode)
      × (p.plan.proto ≡ t.effect.mode.proto)
      × (ending_by p.plan.deed ≡ t.effect.ending)
  plan_runs p old new caller mode played who where_is =
      let by = runner caller mode in
      let same = same_runner caller mode who in
      let left = without_due m (keyspace l past) in
      let served_as = served_reading words in
      let now : ran_over (without_due m old) by words m ≡ ran_over left runs_as words m =
      ap (λ x. ran_over (without_due m x) by words m) where_is
      ∙ ran_same words by runs_as same who.broken left m in
      let made : made_of words by ≡ made_of words runs_as =
      made_same words by runs_as same who.broken in (
        played.expired ∙ ap (due_keys m) where_is,
        played.plan.reply
            ∙ ap (λ (e : effects.Effect). replied_if (ending_in mode served_as) e.reply) now
            ∙ ap (λ x. replied_if (ending_in x served_as) (ran_over left runs_as words m).reply)
            who.mode_is,
        played.space ∙ ap (λ (e : effects.Effect). e.space) now,
        played.plan.signals ∙ ap (λ (e : effects.Effect). e.signalled) now,
        played.plan.memory ∙ ap (λ (o : OwnEffect). o.memory) made,
        ap (mode_by p.plan.deed) (sym who.mode_is) ∙ played.plan.mode
            ∙ ap (λ (o : OwnEffect). o.mode) made,
        played.plan.proto ∙ ap (λ (o : OwnEffect). o.mode.proto) made,
        played.plan.ending ∙ ap (λ x. ending_in x served_as) who.mode_is,
      )

-- ---- the number of a target

abbrev IsSmall : Option ℕ → Type 0
IsSmall target = IfSome target (λ r. r < 2 ^ 63)

accepted_target : (o : TrackOptions) (x : Bool) (t : Tracking) → tracking_fault o x t ≡ None
    → (x ≡ true → IsSmall (target_in o)) → IsSmall (redirect_of (tracked o t))
accepted_target o x t none small = grind arith

number_changed : (c : Command) (x : Bool) (m : ModeState) → HasNumber m → fault_at c x m ≡ None
    → (x ≡ true → IsSmall (target_of (Ok c))) → HasNumber (ended c (changed c m))
unfolding fault_at
number_changed (ClientTracking o) x m h none small = accepted_target o x m.tracking none small
number_changed c x m h none small = grind arith

number_refused : (fault : ModeFault) (m : ModeState) → HasNumber m
    → HasNumber (after_refusal fault m)
number_refused fault m h = grind arith

number_unless : (f : Option ModeFault) (c : Command) (x : Bool) (m : ModeState)
    → fault_at c x m ≡ f → HasNumber m → (x ≡ true → IsSmall (target_of (Ok c)))
    → HasNumber (unless_refused f c m).mode
number_unless None c x m is h small = number_changed c x m h is small
number_unless (Some fault) c x m is h small = number_refused fault m h

number_own : (r : Result Command WordFault) (by : Runner) → HasNumber by.mode
    → (by.target_exists ≡ true → IsSmall (target_of r)) → HasNumber (own_effect r by).mode
number_own (Ok c) by h small =
    number_unless (fault_at c by.target_exists by.mode) c by.target_exists by.mode refl h small
number_own (Err f) by h small = h

-- of one that is accepted it is that of a connection
pub number_made : (words : List (List ℕ)) (by : Runner) → HasNumber by.mode
    → (by.target_exists ≡ true → IsSmall (target_of (served_reading words)))
    → HasNumber (made_of words by).mode
unfolding made_of
number_made words by h small =
    elim (is_barred by.mode (served_reading words)) as (λ b. HasNumber (cond b
    (refused_effect by.mode) (own_effect (served_reading words) by)).mode) [
      | true ↦ h
      | false ↦ number_own (served_reading words) by h small
    ]
