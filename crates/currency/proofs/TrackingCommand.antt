-- What a client's tracking command is read as: the client's options, and where invalidations are to
-- go.
use Rattle.std.proofs.Common.{◌≡◌, ◌⊎◌, inl, inr, ℕ, ℤ, List, [], ◌∷◌, ◌++◌, Bool, true, false}
use Rattle.std.proofs.Common.{refl, ap, sym, ◌∙◌, Ok, Err, Option, Some, None, codes}
use Rattle.std.proofs.Common.{append-nil, append_assoc}
use Rattle.std.specs.Fmt.{decimal}
use Rattle.std.specs.Prelude.{pos}
use Rattle.std.specs.List.{flat_map}
use Rattle.command_words.specs.declared.command.Command.{Command}
use Rattle.command_words.specs.declared.command.Command.TheVariants.{ClientTracking}
use Rattle.command_words.specs.declared.command.TrackOptions.{TrackOptions}
use Rattle.command_words.specs.declared.command.WordFault.{WordFault}
use Rattle.command_words.specs.Reading.{Read, read_as, read_then}
use Rattle.command_words.specs.WordCounts.{number}
use Rattle.command_words.specs.Words.{reading}
use Rattle.command_words.specs.StringWords.{string_reading}
use Rattle.command_words.specs.HashWords.{hash_reading}
use Rattle.command_words.specs.KeyWords.{key_reading}
use Rattle.command_words.specs.ConnectionWords.{connection_reading}
use Rattle.command_words.specs.ClientWords.{client_reading}
use Rattle.command_words.specs.TrackingWords.{connection_of, no_options, track_options, tracking}
use Rattle.track_modes.specs.declared.tracking.TrackMode.{TrackMode}
use Rattle.track_modes.specs.declared.tracking.TrackMode.TheVariants as track
use Rattle.track_modes.specs.PrefixLists.{registered}
use Rattle.shared_cache.specs.declared.log.Caching.{Caching}
use Rattle.shared_cache.specs.declared.log.Caching.TheVariants.{Default, OptIn, OptOut, Bcast}
use Rattle.shared_cache.specs.declared.log.ClientMode.{ClientMode}
use Rattle.shared_cache.specs.Log.{caching_words, noloop_words, redirect_words}
use Rattle.shared_cache.specs.Log.{tracking as asks_tracking}
use Rattle.currency.proofs.DecimalWords.{number_back}

-- ---- how a client asks to be tracked

abbrev pub asked_mode : Caching → TrackMode
asked_mode Default = track.Default
asked_mode OptIn = track.OptIn
asked_mode OptOut = track.OptOut
asked_mode (Bcast prefixes) = track.Bcast (registered prefixes [])

abbrev pub directed : Option ℕ → TrackOptions
directed target = record (no_options true) { redirect = target }

abbrev pub asked_options : Caching → Bool → Option ℕ → TrackOptions
asked_options Default noloop target = record (directed target) { noloop = noloop }
asked_options OptIn noloop target = record (directed target) { optin = true; noloop = noloop }
asked_options OptOut noloop target = record (directed target) { optout = true; noloop = noloop }
asked_options (Bcast prefixes) noloop target =
    record (directed target) { prefixes = prefixes; bcast = true; noloop = noloop }

-- ---- its options are read

abbrev prefix_words : List (List ℕ) → List (List ℕ)
prefix_words prefixes = flat_map (λ p. codes "PREFIX" ∷ p ∷ []) prefixes

prefixes_read : (o : TrackOptions) (ps rest : List (List ℕ))
    → track_options o (prefix_words ps ++ rest)
    ≡ track_options (record o { prefixes = o.prefixes ++ ps }) rest
prefixes_read o [] rest =
    ap (λ xs. track_options (record o { prefixes = xs }) rest) (sym (append-nil o.prefixes))
prefixes_read o (p ∷ ps) rest =
    prefixes_read (record o { prefixes = o.prefixes ++ p ∷ [] }) ps rest
    ∙ ap (λ xs. track_options (record o { prefixes = xs }) rest)
    (append_assoc o.prefixes (p ∷ []) ps)

noloop_read : (ps : List (List ℕ)) (noloop : Bool) (target : Option ℕ)
    → track_options (asked_options (Bcast ps) false target) (noloop_words noloop)
    ≡ Ok (asked_options (Bcast ps) noloop target)
noloop_read ps true target = refl
noloop_read ps false target = refl

options_read : (c : Caching) (noloop : Bool) (target : Option ℕ)
    → track_options (directed target) (caching_words c ++ noloop_words noloop)
    ≡ Ok (asked_options c noloop target)
options_read Default true target = refl
options_read Default false target = refl
options_read OptIn true target = refl
options_read OptIn false target = refl
options_read OptOut true target = refl
options_read OptOut false target = refl
options_read (Bcast ps) noloop target =
    prefixes_read (asked_options (Bcast []) false target) ps (noloop_words noloop)
    ∙ noloop_read ps noloop target

tracking_reads : (words : List (List ℕ))
    → reading (codes "CLIENT" ∷ codes "TRACKING" ∷ codes "ON" ∷ words)
    ≡ read_as ClientTracking (track_options (no_options true) words)
unfolding reading string_reading hash_reading key_reading connection_reading client_reading tracking
tracking_reads words = refl

-- ---- the command

-- words that ask for what a client asks for, or that read as no command
abbrev pub ReadsAsked : ClientMode → Option ℕ → List (List ℕ) → Type 0
ReadsAsked m target words =
    (reading words ≡ Ok (ClientTracking (asked_options m.caching m.noloop target)))
    ⊎ ((fault : WordFault) × (reading words ≡ Err fault))

-- without a target
pub direct_reads : (m : ClientMode) → ReadsAsked m None (asks_tracking m [])
direct_reads m =
    inl (tracking_reads (caching_words m.caching ++ noloop_words m.noloop)
    ∙ ap (read_as ClientTracking) (options_read m.caching m.noloop None))

-- a number past 64 bits reads as no command
module _ (m : ClientMode) where
  abbrev with_target : Read ℤ → Read Command
  with_target r =
      read_as ClientTracking
      (read_then r (λ n. Ok (asked_options m.caching m.noloop (Some (connection_of n)))))

  redirect_reads : (id : List ℕ)
      → reading (asks_tracking m (redirect_words id)) ≡ with_target (number id)
  redirect_reads id =
      tracking_reads (redirect_words id ++ (caching_words m.caching ++ noloop_words m.noloop))
      ∙ (λ i. read_as ClientTracking (read_then (number id)
      (λ n. options_read m.caching m.noloop (Some (connection_of n)) i)))

  by_number : (id : ℕ) (words : List (List ℕ)) (r : Read ℤ) → ((n : ℤ) → r ≡ Ok n → n ≡ pos id)
      → reading words ≡ with_target r → ReadsAsked m (Some id) words
  by_number id words (Ok n) back e =
      inl (e ∙ ap (λ k. with_target (Ok k)) (back n refl))
  by_number id words (Err fault) back e = inr (fault, e)

  -- to the connection of that number
  pub target_reads : (id : ℕ)
      → ReadsAsked m (Some id) (asks_tracking m (redirect_words (decimal id)))
  target_reads id =
      by_number id (asks_tracking m (redirect_words (decimal id))) (number (decimal id))
      (number_back id) (redirect_reads (decimal id))
