pub mod HeldExactly
