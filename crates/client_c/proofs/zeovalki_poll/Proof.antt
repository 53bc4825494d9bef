-- `zeovalki_poll` meets its contract.
use Rattle.client_c.proofs.Exports.{number_exported}
use Rattle.client_library.specs.Foreign.{OnOpen}
use Rattle.client_library.specs.Handles.{Polls}
use Rattle.client_library.specs.contracts.foreign.ForeignClient.{the_row}
use Rattle.client_library.proofs.foreign.ForeignClient.poll.Met as of_thm
use Rattle.client_library.proofs.foreign.ForeignClient.poll.Symbol.{name as #callee}
use Rattle.client_c.specs.contracts.zeovalki_poll.Key.{name as key}
use Rattle.client_c.proofs.zeovalki_poll.Statement.{statement}
use Rattle.client_c.proofs.zeovalki_poll.Code as code

pub zeovalki_poll_spec : {M : Type 1} → statement M
zeovalki_poll_spec 𝓤 𝓛 𝓜 𝓡 wired =
    number_exported the_row 𝓛 𝓜 𝓡 _ _ key #callee (λ n. OnOpen (Polls n))
    (code.unfolded 𝓤 𝓛.H 𝓜 𝓡 wired)
    (of_thm.met 𝓤 𝓛 𝓜 𝓡 (code.calls-client_library::foreign::ForeignClient::poll 𝓡.env wired))
