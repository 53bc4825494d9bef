-- `zeovalki_send` meets its contract.
use Rattle.client_c.proofs.Exports.{bytes_exported}
use Rattle.client_library.specs.Foreign.{OnOpen}
use Rattle.client_library.specs.Handles.{Sends}
use Rattle.client_library.specs.contracts.foreign.ForeignClient.{the_row}
use Rattle.client_library.proofs.foreign.ForeignClient.send.Met as of_thm
use Rattle.client_library.proofs.foreign.ForeignClient.send.Symbol.{name as #callee}
use Rattle.client_c.specs.contracts.zeovalki_send.Key.{name as key}
use Rattle.client_c.proofs.zeovalki_send.Statement.{statement}
use Rattle.client_c.proofs.zeovalki_send.Code as code

pub zeovalki_send_spec : {M : Type 1} → statement M
zeovalki_send_spec 𝓤 𝓛 𝓜 𝓡 wired =
    bytes_exported the_row 𝓛 𝓜 𝓡 _ _ key #callee (λ request. OnOpen (Sends request))
    (code.unfolded 𝓤 𝓛.H 𝓜 𝓡 wired)
    (of_thm.met 𝓤 𝓛 𝓜 𝓡 (code.calls-client_library::foreign::ForeignClient::send 𝓡.env wired))
