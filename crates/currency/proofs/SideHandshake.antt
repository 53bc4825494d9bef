-- Of two links, what a client sends on Side, and what that makes of Side's connection: it listens
-- once both commands have run.
use Rattle.std.proofs.Common.{◌≡◌, ◌-◌, ◌<◌, ◌≤◌, ℕ, zero, suc, List, [], ◌∷◌, ◌++◌, length}
use Rattle.std.proofs.Common.{Bool, true, false, not, cond, refl, ap, sym, subst, ◌∙◌, arith, Some}
use Rattle.std.proofs.Common.{codes}
use Rattle.std.proofs.lemmas.Bool.{and_parts, eqb-true}
use Rattle.std.proofs.lemmas.Bool.Decides.{nat_tests}
use Rattle.std.proofs.lemmas.Option.{same_Some}
use Rattle.std.specs.Prelude.{pos, slice_get, ◌==◌}
use Rattle.std.specs.List.{flat_map}
use Rattle.resp_value.specs.Lists.{IsPrefix}
use Rattle.resp_value.specs.declared.value.Proto.{Proto}
use Rattle.resp_value.specs.declared.value.Proto.TheVariants.{Two, Three}
use Rattle.resp_value.specs.declared.value.Value.TheVariants.{Number}
use Rattle.command_words.specs.Effect.{Effect}
use Rattle.command_words.specs.Expiry.{without_due}
use Rattle.command_words.specs.Space.{Space}
use Rattle.command_words.specs.Words.{reading}
use Rattle.command_words.specs.StringWords.{string_reading}
use Rattle.command_words.specs.HashWords.{hash_reading}
use Rattle.command_words.specs.KeyWords.{key_reading}
use Rattle.command_words.specs.ConnectionWords.{connection_reading}
use Rattle.command_words.specs.ClientWords.{client_reading}
use Rattle.track_modes.specs.Commands.{fault_at, spent_mode}
use Rattle.track_modes.specs.ModeState.{ModeState, new_mode}
use Rattle.serial_model.specs.declared.history.Limits.{Limits}
use Rattle.serial_model.specs.declared.history.Entry.{Entry}
use Rattle.serial_model.specs.declared.history.Entry.TheVariants.{Admit, Run, Tick, Take, Close}
use Rattle.serial_model.specs.Modes.{OwnEffect, Runner, own_effect}
use Rattle.serial_model.specs.History.{IsLegal, has_ended, is_admitted, keyspace, made_of}
use Rattle.serial_model.specs.History.{mode, ran, ran_over, runner, runs_of, served_reading}
use Rattle.shared_cache.specs.Notices.{channel}
use Rattle.shared_cache.specs.declared.log.ClientMode.{ClientMode}
use Rattle.shared_cache.specs.declared.log.Shape.{Shape}
use Rattle.shared_cache.specs.declared.log.Shape.TheVariants.{Pair}
use Rattle.shared_cache.specs.declared.log.Wire.TheVariants.{Side}
use Rattle.shared_cache.specs.declared.log.LogEntry.{LogEntry}
use Rattle.shared_cache.specs.Held.{Setup, commands}
use Rattle.shared_cache.specs.Log.{id_number, is_told, put_step, steps_of, told_id}
use Rattle.currency.proofs.AsAsked.{Listens}
use Rattle.currency.proofs.Lists.{get_front}
use Rattle.currency.proofs.OffChannel.{made_own, ran_own}
use Rattle.currency.proofs.RunPlaces.{by_runs, own_words}
use Rattle.currency.proofs.Runs.{Older, older_tail}
use Rattle.currency.proofs.Settings.{hello_made, hello_words, proto_by}

-- ---- its commands

abbrev pub id_words : List (List ℕ)
id_words = codes "CLIENT" ∷ codes "ID" ∷ []

abbrev pub subscribe_words : List (List ℕ)
subscribe_words = codes "SUBSCRIBE" ∷ channel ∷ []

abbrev pub side_words : Proto → List (List (List ℕ))
side_words Two = id_words ∷ subscribe_words ∷ []
side_words Three = hello_words ∷ id_words ∷ []

by_shape : (p : Proto) (m : ClientMode) (told : Bool) (id : List ℕ) (shape : Shape) → shape ≡ Pair
    → flat_map (put_step m told id) (steps_of Side shape p) ++ [] ≡ side_words p
by_shape Two m told id shape two =
    ap (λ h. flat_map (put_step m told id) (steps_of Side h Two) ++ []) two
by_shape Three m told id shape two =
    ap (λ h. flat_map (put_step m told id) (steps_of Side h Three) ++ []) two

pub side_commands : (s : Setup) (log : List LogEntry) → s.mode.shape ≡ Pair
    → commands s Side log ≡ side_words s.mode.proto
side_commands s log two =
    by_shape s.mode.proto s.mode (is_told s.mode log) (told_id s.mode log) s.mode.shape two

id_there : (p : Proto) → slice_get (side_words p) (id_number p - 1) ≡ Some id_words
id_there Two = refl
id_there Three = refl

-- ---- what they make

id_made : (by : Runner) → (own_effect (served_reading id_words) by).mode ≡ spent_mode by.mode
unfolding reading string_reading hash_reading key_reading connection_reading client_reading fault_at
id_made by = refl

subscribe_made : (by : Runner)
    → (own_effect (served_reading subscribe_words) by).mode
    ≡ record by.mode { subscribed = true; caching = false }
unfolding reading string_reading hash_reading key_reading connection_reading fault_at
subscribe_made by = refl

-- CLIENT ID is answered with the connection's number
id_replied : (by : Runner) (space : Space) (moment : ℕ) → by.mode.subscribed ≡ false
    → (ran_over space by id_words moment).reply ≡ Number (pos by.id)
unfolding reading string_reading hash_reading key_reading connection_reading client_reading
id_replied by space moment off =
    ap (λ (e : Effect). e.reply) (ran_own by id_words off space moment)

-- whether it is subscribed after so many of them
abbrev subscribed_by : Proto → ℕ → Bool
subscribed_by Three n = false
subscribed_by Two zero = false
subscribed_by Two (suc zero) = false
subscribed_by Two (suc (suc n)) = true

record SideHas (p : Proto) (n : ℕ) (m : ModeState) : Type 0 where
  proto_is : m.proto ≡ proto_by p n
  subscribed_is : m.subscribed ≡ subscribed_by p n

first_has : (p : Proto) → SideHas p 0 new_mode
first_has Two = record { proto_is = refl; subscribed_is = refl }
first_has Three = record { proto_is = refl; subscribed_is = refl }

made_as : (by : Runner) (words ws : List (List ℕ)) (m : ModeState)
    → by.mode.subscribed ≡ false → Some ws ≡ Some words
    → (own_effect (served_reading ws) by).mode ≡ m → (made_of words by).mode ≡ m
made_as by words ws m off is e =
    ap (λ (o : OwnEffect). o.mode) (made_own by words off)
    ∙ ap (λ us. (own_effect (served_reading us) by).mode) (sym (same_Some ws words is)) ∙ e

side_step : (p : Proto) (n : ℕ) (by : Runner) (words : List (List ℕ))
    → slice_get (side_words p) n ≡ Some words → SideHas p n by.mode
    → SideHas p (suc n) (made_of words by).mode
side_step Two zero by words e h =
    let is = made_as by words id_words (spent_mode by.mode) h.subscribed_is e (id_made by) in
    record {
      proto_is = ap (λ (m : ModeState). m.proto) is ∙ h.proto_is;
      subscribed_is = ap (λ (m : ModeState). m.subscribed) is ∙ h.subscribed_is;
    }
side_step Two (suc zero) by words e h =
    let is = made_as by words subscribe_words
    (record by.mode { subscribed = true; caching = false }) h.subscribed_is e (subscribe_made by) in
    record {
      proto_is = ap (λ (m : ModeState). m.proto) is ∙ h.proto_is;
      subscribed_is = ap (λ (m : ModeState). m.subscribed) is;
    }
side_step Two (suc (suc n)) by words e h = absurd (let no : ⊥ = cc in no)
side_step Three zero by words e h =
    let is = made_as by words hello_words (record by.mode { proto = Three; caching = false })
    h.subscribed_is e (hello_made by) in
    record {
      proto_is = ap (λ (m : ModeState). m.proto) is;
      subscribed_is = ap (λ (m : ModeState). m.subscribed) is ∙ h.subscribed_is;
    }
side_step Three (suc zero) by words e h =
    let is = made_as by words id_words (spent_mode by.mode) h.subscribed_is e (id_made by) in
    record {
      proto_is = ap (λ (m : ModeState). m.proto) is ∙ h.proto_is;
      subscribed_is = ap (λ (m : ModeState). m.subscribed) is ∙ h.subscribed_is;
    }
side_step Three (suc (suc n)) by words e h = absurd (let no : ⊥ = cc in no)

then_listens : (p : Proto) (n : ℕ) (m : ModeState) → 2 ≤ n → SideHas p n m → Listens p m
then_listens Two zero m le h = absurd (let no : ⊥ = omega (arith, le) in no)
then_listens Two (suc zero) m le h = absurd (let no : ⊥ = omega (arith, le) in no)
then_listens Two (suc (suc n)) m le h = h.subscribed_is
then_listens Three zero m le h = absurd (let no : ⊥ = omega (arith, le) in no)
then_listens Three (suc n) m le h = h.proto_is

not_yet_subscribed : (p : Proto) → subscribed_by p (id_number p - 1) ≡ false
not_yet_subscribed Two = refl
not_yet_subscribed Three = refl

-- ---- the mode of Side's connection

module _ (s : Setup) (l : Limits) (log : List LogEntry) (two : s.mode.shape ≡ Pair) (c : ℕ)
    (past : List Entry) (ran_prefix : IsPrefix (runs_of c past) (commands s Side log)) where
  pub command_at : (id m : ℕ) (words : List (List ℕ)) (up : List Entry) → (id == c) ≡ true
      → Older (Run id words m ∷ up) past
      → slice_get (side_words s.mode.proto) (length (runs_of c up)) ≡ Some words
  command_at id m words up own o =
      ap (λ cs. slice_get cs (length (runs_of c up)))
      (sym (side_commands s log two) ∙ sym ran_prefix.1)
      ∙ get_front (runs_of c past) ran_prefix.0 (length (runs_of c up)) words
      (own_words c id m words up past own o)

  side_has : (up : List Entry) → Older up past
      → SideHas s.mode.proto (length (runs_of c up)) (mode l c up)
  side_has =
      by_runs l c past (SideHas s.mode.proto) (first_has s.mode.proto)
      (λ id m words up own o has.
      side_step s.mode.proto (length (runs_of c up)) (runner l up id words m) words
      (command_at id m words up own o) has)

  -- of a client of the second protocol it stays there
  pub stays_two : s.mode.proto ≡ Two → (up : List Entry) → Older up past
      → (mode l c up).proto ≡ Two
  stays_two is up o =
      (side_has up o).proto_is ∙ ap (λ p. proto_by p (length (runs_of c up))) is

  -- it listens once its two commands have run
  pub listens : (up : List Entry) → Older up past → 2 ≤ length (runs_of c up)
      → Listens s.mode.proto (mode l c up)
  listens up o le =
      then_listens s.mode.proto (length (runs_of c up)) (mode l c up) le (side_has up o)

  -- the reply to CLIENT ID names it
  pub id_told : (id m : ℕ) (words : List (List ℕ)) (up : List Entry) → (id == c) ≡ true
      → Older (Run id words m ∷ up) past
      → length (runs_of c up) ≡ id_number s.mode.proto - 1
      → (ran l up id words m).reply ≡ Number (pos c)
  id_told id m words up own o count =
      let by = runner l up id id_words m in
      let same : words ≡ id_words =
      same_Some words id_words
      (sym (command_at id m words up own o) ∙ ap (slice_get (side_words s.mode.proto)) count
      ∙ id_there s.mode.proto) in
      let off : by.mode.subscribed ≡ false =
      ap (λ d. (mode l d up).subscribed) (eqb-true id c own)
      ∙ (side_has up (older_tail (Run id words m) up past o)).subscribed_is
      ∙ ap (subscribed_by s.mode.proto) count ∙ not_yet_subscribed s.mode.proto in
      ap (λ ws. (ran l up id ws m).reply) same
      ∙ id_replied by (without_due m (keyspace l up)) m off
      ∙ ap (λ d. Number (pos d)) (eqb-true id c own)

-- ---- a connection that ran a command was admitted

later_admitted : (past : List Entry) (id c : ℕ) → is_admitted past c ≡ true
    → is_admitted (Admit id ∷ past) c ≡ true
later_admitted past id c h = grind (arith, nat_tests)

pub runs_admitted : (l : Limits) (c : ℕ) (past : List Entry) → IsLegal l past
    → 0 < length (runs_of c past) → is_admitted past c ≡ true
runs_admitted l c [] legal some = absurd (omega (arith, some))
runs_admitted l c (Admit id ∷ past) legal some =
    later_admitted past id c (runs_admitted l c past legal.2 some)
runs_admitted l c (Run id words m ∷ past) legal some =
    elim (id == c) as (λ b. (id == c) ≡ b
    → 0 < length (cond b (runs_of c past ++ words ∷ []) (runs_of c past))
    → is_admitted past c ≡ true) [
      | true ↦ λ own some.
          subst (λ d. is_admitted past d ≡ true) (eqb-true id c own)
          (and_parts (is_admitted past id) (not (has_ended l id past)) legal.0).0
      | false ↦ λ apart some. runs_admitted l c past legal.2 some
    ] refl some
runs_admitted l c (Tick m ∷ past) legal some = runs_admitted l c past legal.3 some
runs_admitted l c (Take id max ∷ past) legal some = runs_admitted l c past legal.2 some
runs_admitted l c (Close id ∷ past) legal some = runs_admitted l c past legal.1 some
