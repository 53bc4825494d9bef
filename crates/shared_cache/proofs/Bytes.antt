-- The bytes of a link, by the log.
use Rattle.std.proofs.Common.{◌≡◌, ◌+◌, ◌-◌, ◌≤◌, ◌++◌, ℕ, List, [], ◌∷◌, length, drop, min, map}
use Rattle.std.proofs.Common.{false}
use Rattle.std.proofs.Common.{sym, ap, ◌∙◌, refl, arith, append-nil, append_assoc, length-append}
use Rattle.std.specs.List.{flat_map}
use Rattle.std.proofs.lemmas.Grind.{flat_map-append}
use Rattle.std.proofs.lemmas.List.{map-append, drop-drop, drop-append-le, drop_min, length-drop}
use Rattle.resp_value.specs.Spelling.{request_spelling}
use Rattle.command_words.specs.Queries.{key_of}
use Rattle.resp_value.specs.declared.value.Value.{Value}
use Rattle.shared_cache.specs.declared.log.Wire.{Wire}
use Rattle.shared_cache.specs.declared.log.Wire.TheVariants.{Main, Side}
use Rattle.shared_cache.specs.declared.log.LogEntry.{LogEntry}
use Rattle.shared_cache.specs.declared.log.LogEntry.TheVariants.{Ask, Send, Poll, TakeOut, Got}
use Rattle.shared_cache.specs.declared.log.LogEntry.TheVariants.{End, Bad}
use Rattle.shared_cache.specs.Log.{handshake, is_told, told_id, put_tracking, caching_on}
use Rattle.shared_cache.specs.Log.{caching_on_for}
use Rattle.shared_cache.specs.Held.{Setup, SentCommand, sent, put_ask, put_command, held_for, held}
use Rattle.shared_cache.specs.Out.{out, taken, untaken}
use Rattle.shared_cache.specs.Laws.{TakenWithin}
use Rattle.shared_cache.proofs.Handshakes.{side_same, handshake_grows, tracked_last}

abbrev pub bytes_of : List SentCommand → List ℕ
bytes_of cs = flat_map request_spelling (map (λ (c : SentCommand). c.words) cs)

-- more commands, more bytes
pub out_more : (s : Setup) (before after : List LogEntry) (cs : List SentCommand)
    → handshake s.mode Main after ≡ handshake s.mode Main before
    → sent s after ≡ sent s before ++ cs → out s Main after ≡ out s Main before ++ bytes_of cs
unfolding out
out_more s before after cs h e =
    (λ i. flat_map request_spelling (h i ++ map (λ (c : SentCommand). c.words) (e i)))
    ∙ ap (λ l. flat_map request_spelling (handshake s.mode Main before ++ l))
    (map-append (λ (c : SentCommand). c.words) (sent s before) cs)
    ∙ ap (flat_map request_spelling)
    (sym (append_assoc (handshake s.mode Main before)
    (map (λ (c : SentCommand). c.words) (sent s before))
    (map (λ (c : SentCommand). c.words) cs)))
    ∙ flat_map-append request_spelling
    (handshake s.mode Main before ++ map (λ (c : SentCommand). c.words) (sent s before))
    (map (λ (c : SentCommand). c.words) cs)

pub out_same : (s : Setup) (before after : List LogEntry)
    → handshake s.mode Main after ≡ handshake s.mode Main before
    → sent s after ≡ sent s before → out s Main after ≡ out s Main before
unfolding out
out_same s before after h e =
    λ i. flat_map request_spelling (h i ++ map (λ (c : SentCommand). c.words) (e i))

side_out_same : (s : Setup) (before after : List LogEntry) → out s Side after ≡ out s Side before
unfolding out
side_out_same s before after =
    ap (λ l. flat_map request_spelling (l ++ [])) (side_same s.mode before after)

-- ---- no more were taken than there are

grown : (s : Setup) (before after : List LogEntry) (cs : List SentCommand) (n : ℕ)
    → handshake s.mode Main after ≡ handshake s.mode Main before
    → sent s after ≡ sent s before ++ cs → n ≤ length (out s Main before)
    → n ≤ length (out s Main after)
grown s before after cs n h e le =
    let f = ap length (out_more s before after cs h e) in
    omega (arith, f, length-append (out s Main before) (bytes_of cs))

same_length : (s : Setup) (before after : List LogEntry) (n : ℕ)
    → handshake s.mode Main after ≡ handshake s.mode Main before
    → sent s after ≡ sent s before → n ≤ length (out s Main before) → n ≤ length (out s Main after)
same_length s before after n h e le = let f = ap length (out_same s before after h e) in
    omega (arith, f)

out_parts : (s : Setup) (log : List LogEntry)
    → length (out s Main log)
    ≡ length (flat_map request_spelling (handshake s.mode Main log))
    + length (bytes_of (sent s log))
unfolding out
out_parts s log =
    ap length (flat_map-append request_spelling (handshake s.mode Main log)
    (map (λ (c : SentCommand). c.words) (sent s log)))
    ∙ length-append (flat_map request_spelling (handshake s.mode Main log))
    (bytes_of (sent s log))

-- what is got may let more of the handshake go
got_longer : (s : Setup) (w : Wire) (v : Value) (log : List LogEntry)
    → length (out s Main log) ≤ length (out s Main (Got w v ∷ log))
got_longer s w v log =
    let g = handshake_grows s.mode (Got w v) log in
    omega (
      arith,
      out_parts s log,
      out_parts s (Got w v ∷ log),
      ap (λ l. length (flat_map request_spelling l)) g.1,
      ap length (flat_map-append request_spelling (handshake s.mode Main log) g.0),
      length-append (flat_map request_spelling (handshake s.mode Main log))
          (flat_map request_spelling g.0),
    )

pub taken_main : (s : Setup) (log : List LogEntry) → taken s Main log ≤ length (out s Main log)
taken_main s [] = omega arith
taken_main s (Ask q ∷ log) =
    grown s log (Ask q ∷ log)
    (put_ask (held_for q (held s log)) s.mode (caching_on_for s.mode log (key_of q)) q)
    (taken s Main log) refl refl (taken_main s log)
taken_main s (Send ws ∷ log) =
    grown s log (Send ws ∷ log) (put_command s.mode (caching_on s.mode log) ws)
    (taken s Main log) refl refl (taken_main s log)
taken_main s (Poll n ∷ log) =
    same_length s log (Poll n ∷ log) (taken s Main log) refl refl (taken_main s log)
taken_main s (TakeOut Main n ∷ log) =
    same_length s log (TakeOut Main n ∷ log)
    (taken s Main log + min n (length (out s Main log) - taken s Main log)) refl refl
    (let w = taken_main s log in omega arith)
taken_main s (TakeOut Side n ∷ log) =
    same_length s log (TakeOut Side n ∷ log) (taken s Main log) refl refl (taken_main s log)
taken_main s (Got w v ∷ log) =
    let l = got_longer s w v log in let t = taken_main s log in omega arith
taken_main s (End w ∷ log) =
    same_length s log (End w ∷ log) (taken s Main log) refl refl (taken_main s log)
taken_main s (Bad w v ∷ log) =
    same_length s log (Bad w v ∷ log) (taken s Main log) refl refl (taken_main s log)

side_length_same : (s : Setup) (before after : List LogEntry) (n : ℕ)
    → n ≤ length (out s Side before) → n ≤ length (out s Side after)
side_length_same s before after n le =
    let f = ap length (side_out_same s before after) in omega (arith, f)

taken_side : (s : Setup) (log : List LogEntry) → taken s Side log ≤ length (out s Side log)
taken_side s [] = omega arith
taken_side s (Ask q ∷ log) =
    side_length_same s log (Ask q ∷ log) (taken s Side log) (taken_side s log)
taken_side s (Send ws ∷ log) =
    side_length_same s log (Send ws ∷ log) (taken s Side log) (taken_side s log)
taken_side s (Poll n ∷ log) =
    side_length_same s log (Poll n ∷ log) (taken s Side log) (taken_side s log)
taken_side s (TakeOut Main n ∷ log) =
    side_length_same s log (TakeOut Main n ∷ log) (taken s Side log) (taken_side s log)
taken_side s (TakeOut Side n ∷ log) =
    side_length_same s log (TakeOut Side n ∷ log)
    (taken s Side log + min n (length (out s Side log) - taken s Side log))
    (let w = taken_side s log in omega arith)
taken_side s (Got w v ∷ log) =
    side_length_same s log (Got w v ∷ log) (taken s Side log) (taken_side s log)
taken_side s (End w ∷ log) =
    side_length_same s log (End w ∷ log) (taken s Side log) (taken_side s log)
taken_side s (Bad w v ∷ log) =
    side_length_same s log (Bad w v ∷ log) (taken s Side log) (taken_side s log)

pub taken_within : TakenWithin
taken_within s Main log = taken_main s log
taken_within s Side log = taken_side s log

-- ---- the bytes that were not taken

pub untaken_more : (s : Setup) (before after : List LogEntry) (cs : List SentCommand)
    → handshake s.mode Main after ≡ handshake s.mode Main before
    → sent s after ≡ sent s before ++ cs → taken s Main after ≡ taken s Main before
    → untaken s Main after ≡ untaken s Main before ++ bytes_of cs
unfolding untaken
untaken_more s before after cs h e t =
    (λ i. drop (t i) (out_more s before after cs h e i))
    ∙ drop-append-le (taken s Main before) (out s Main before) (bytes_of cs) (taken_main s before)

pub untaken_same : (s : Setup) (before after : List LogEntry)
    → handshake s.mode Main after ≡ handshake s.mode Main before
    → sent s after ≡ sent s before → taken s Main after ≡ taken s Main before
    → untaken s Main after ≡ untaken s Main before
unfolding untaken
untaken_same s before after h e t = λ i. drop (t i) (out_same s before after h e i)

-- nothing but what is taken changes those of Side
pub side_untaken_same : (s : Setup) (before after : List LogEntry)
    → taken s Side after ≡ taken s Side before → untaken s Side after ≡ untaken s Side before
unfolding untaken
side_untaken_same s before after t = λ i. drop (t i) (side_out_same s before after i)

took : (most n : ℕ) (bytes old : List ℕ) → bytes ≡ old
    → drop (n + min most (length old - n)) bytes ≡ drop most (drop n old)
took most n bytes old e =
    ap (drop (n + min most (length old - n))) e
    ∙ sym (grind (arith, drop-drop, min))
    ∙ ap (λ m. drop (min most m) (drop n old)) (sym (length-drop n old))
    ∙ drop_min most (drop n old)

pub untaken_took : (s : Setup) (log : List LogEntry) (w : Wire) (most : ℕ)
    → untaken s w (TakeOut w most ∷ log) ≡ drop most (untaken s w log)
unfolding untaken
untaken_took s log Main most =
    took most (taken s Main log) (out s Main (TakeOut Main most ∷ log)) (out s Main log)
    (out_same s log (TakeOut Main most ∷ log) refl refl)
untaken_took s log Side most =
    took most (taken s Side log) (out s Side (TakeOut Side most ∷ log)) (out s Side log)
    (side_out_same s log (TakeOut Side most ∷ log))

-- a new client's are the handshake's
pub untaken_none : (s : Setup) (w : Wire)
    → flat_map request_spelling (handshake s.mode w []) ≡ untaken s w []
unfolding untaken out
untaken_none s Main =
    ap (flat_map request_spelling) (sym (append-nil (handshake s.mode Main [])))
untaken_none s Side =
    ap (flat_map request_spelling) (sym (append-nil (handshake s.mode Side [])))

-- ---- the last reply on Side lets the tracking command go

abbrev bytes_put : Setup → List LogEntry → List ℕ
bytes_put s log =
    flat_map request_spelling
    (put_tracking s.mode.shape s.mode (is_told s.mode log) (told_id s.mode log))

out_told : (s : Setup) (before after : List LogEntry) → is_told s.mode before ≡ false
    → sent s before ≡ [] → sent s after ≡ []
    → out s Main after ≡ out s Main before ++ bytes_put s after
unfolding out
out_told s before after untold none still =
    ap (λ cs. flat_map request_spelling
    (handshake s.mode Main after ++ map (λ (c : SentCommand). c.words) cs)) still
    ∙ ap (flat_map request_spelling) (append-nil (handshake s.mode Main after))
    ∙ ap (flat_map request_spelling) (tracked_last s.mode before after untold)
    ∙ flat_map-append request_spelling (handshake s.mode Main before)
    (put_tracking s.mode.shape s.mode (is_told s.mode after) (told_id s.mode after))
    ∙ ap (λ l. flat_map request_spelling l ++ bytes_put s after)
    (sym (append-nil (handshake s.mode Main before)))
    ∙ ap (λ cs. flat_map request_spelling
    (handshake s.mode Main before ++ map (λ (c : SentCommand). c.words) cs)
    ++ bytes_put s after) (sym none)

pub untaken_told : (s : Setup) (before after : List LogEntry) → is_told s.mode before ≡ false
    → sent s before ≡ [] → sent s after ≡ [] → taken s Main after ≡ taken s Main before
    → untaken s Main after ≡ untaken s Main before ++ bytes_put s after
unfolding untaken
untaken_told s before after untold none still t =
    (λ i. drop (t i) (out_told s before after untold none still i))
    ∙ drop-append-le (taken s Main before) (out s Main before) (bytes_put s after)
    (taken_main s before)
