-- What a turn of the server with its line does: both, or neither.
use Rattle.std.specs.Prelude.{◌≡◌, ℕ, List, [], ◌∷◌, ◌++◌, Result, Ok, Err}
use Rattle.serial_model.specs.declared.history.Limits.{Limits}
use Rattle.serial_model.specs.declared.history.Entry.{Entry}
use Rattle.serial_model.specs.declared.history.BookCall.{BookCall}
use Rattle.serial_model.specs.declared.history.BookReply.{BookReply}
use Rattle.serial_model.specs.declared.history.BookReply.TheVariants as reply
use Rattle.serial_model.specs.declared.history.BookRefusal.TheVariants as refusal
use Rattle.serial_model.specs.Steps.{admitting, book_step}
use Rattle.script_text.specs.declared.line.Line.{Line}
use Rattle.server_links.specs.declared.fault.WorldFault.{WorldFault}
use Rattle.server_links.specs.declared.fault.WorldFault.TheVariants.{NoName, NameTaken}
use Rattle.server_links.specs.declared.fault.WorldFault.TheVariants.{NothingThere}
use Rattle.server_links.specs.declared.fault.WorldFault.TheVariants.{NoMemory, Refused, HistoryFull}
use Rattle.server_links.specs.EntryLines.{dropped_lines}
use Rattle.server_links.specs.LinkSteps.{stopped_number}
use Rattle.server_links.specs.ServerState.{ServerState}

-- and with it the lines of those whom it drops
abbrev pub TurnGives : Limits → List (List ℕ) → List Entry → BookCall → Line → List Line
    → Result BookReply WorldFault → List Entry → List Line → Type 0
TurnGives l names past call line lines (Ok reply) past' lines' =
    (book_step l past call ≡ record { reply = reply; past = past' })
    × (lines' ≡ lines ++ line ∷ dropped_lines l names reply past')
TurnGives l names past call line lines (Err NoMemory) past' lines' =
    (past' ≡ past) × (lines' ≡ lines)
TurnGives l names past call line lines (Err NoName) past' lines' = ⊥
TurnGives l names past call line lines (Err NameTaken) past' lines' = ⊥
TurnGives l names past call line lines (Err NothingThere) past' lines' = ⊥
TurnGives l names past call line lines (Err (Refused number)) past' lines' = ⊥
TurnGives l names past call line lines (Err (HistoryFull entries)) past' lines' = ⊥

-- an Admit with its line, of a link of this name
abbrev pub AdmitGives : ServerState → List ℕ → Line → List Line → Result (Unit {0}) WorldFault
    → ServerState → List Line → Type 0
AdmitGives s name line lines (Ok done) new lines' =
    (new.book.past ≡ (admitting s.book.past).past) × (new.names ≡ s.names ++ name ∷ [])
    × (lines' ≡ lines ++ line ∷ [])
AdmitGives s name line lines (Err NoMemory) new lines' =
    (new.book.past ≡ s.book.past) × (new.names ≡ s.names) × (lines' ≡ lines)
AdmitGives s name line lines (Err NoName) new lines' = ⊥
AdmitGives s name line lines (Err NameTaken) new lines' = ⊥
AdmitGives s name line lines (Err NothingThere) new lines' = ⊥
AdmitGives s name line lines (Err (Refused number)) new lines' = ⊥
AdmitGives s name line lines (Err (HistoryFull entries)) new lines' = ⊥

-- what a Tick comes to that is no entry, by its reply
abbrev pub EndsTick : BookReply → Result (Unit {0}) WorldFault → Type 0
EndsTick (reply.Refused refusal.NoMemory) r = r ≡ Err NoMemory
EndsTick (reply.Refused refusal.Stopped) r = r ≡ Err (Refused stopped_number)
EndsTick (reply.Refused (refusal.Gone id)) r = r ≡ Ok (tt {0})
EndsTick (reply.Admitted e id) r = r ≡ Ok (tt {0})
EndsTick (reply.Ran e) r = r ≡ Ok (tt {0})
EndsTick (reply.Ticked e) r = r ≡ Ok (tt {0})
EndsTick reply.Quiet r = r ≡ Ok (tt {0})
EndsTick (reply.Bytes e bytes) r = r ≡ Ok (tt {0})
EndsTick (reply.Closed e) r = r ≡ Ok (tt {0})
