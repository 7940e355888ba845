-- What serving one connection leaves alone where the node doesn't resolve.
use Rattle.std.specs.Prelude.{◌≡◌, ◌≢◌, ℕ, None, Result, Ok, Err}
use Rattle.fed_serve.specs.declared.served.Served.{Served}
use Rattle.fed_serve.specs.declared.serving.ServeFault.{ServeFault}
use Rattle.fed_serve.specs.declared.serving.ServeFault.TheVariants.{Worn}
use Rattle.fed_serve.specs.Moments.{Around}
use Rattle.fed_serve.specs.Uses.{IsAlone}

pub record ServesAsAuthority (before now : Around) (result : Result Served ServeFault) : Type 0 where
  -- neither the shared objects nor the link
  pub alone : IsAlone before.call now.call
  -- so that none is worn
  pub unworn : (count : ℕ) → result ≢ Err (Worn count)
  -- and there is no trace
  pub untraced : (served : Served) → result ≡ Ok served → served.trace ≡ None
