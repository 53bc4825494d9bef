-- `zeovalki_feed` meets its contract.
use Rattle.client_c.proofs.Exports.{bytes_exported}
use Rattle.client_library.specs.Foreign.{OnOpen}
use Rattle.client_library.specs.Handles.{Feeds}
use Rattle.client_library.specs.contracts.foreign.ForeignClient.{the_row}
use Rattle.client_library.proofs.foreign.ForeignClient.feed.Met as of_thm
use Rattle.client_library.proofs.foreign.ForeignClient.feed.Symbol.{name as #callee}
use Rattle.client_c.specs.contracts.zeovalki_feed.Key.{name as key}
use Rattle.client_c.proofs.zeovalki_feed.Statement.{statement}
use Rattle.client_c.proofs.zeovalki_feed.Code as code

pub zeovalki_feed_spec : {M : Type 1} → statement M
zeovalki_feed_spec 𝓤 𝓛 𝓜 𝓡 wired =
    bytes_exported the_row 𝓛 𝓜 𝓡 _ _ key #callee (λ bytes. OnOpen (Feeds bytes))
    (code.unfolded 𝓤 𝓛.H 𝓜 𝓡 wired)
    (of_thm.met 𝓤 𝓛 𝓜 𝓡 (code.calls-client_library::foreign::ForeignClient::feed 𝓡.env wired))
