mod ExchangeLaws
mod FaultLaws
mod HitLaws
mod KeyLaws
mod OwnCalls
mod PassLaws
mod RoundLaws
mod WebLaws
pub mod CallLaws
