-- How it ends without a node, and with one.
use Rattle.std.proofs.Common.{rules, ◌≡◌, ℕ, Option, Err, refl, ap, inl, inr}
use Rattle.fed_ports.specs.Stores.{Files}
use Rattle.authority_core.specs.Nodes.{Node}
use Rattle.node_files.specs.declared.fault.NodeFault.{NodeFault}
use Rattle.node_files.specs.declared.fault.NodeFault.TheVariants.{Input, Store, Memory}
use Rattle.node_service.specs.Connections.{Connection, ServiceAt}
use Rattle.node_service.specs.declared.service.ServiceEnd.{ServiceEnd}
use Rattle.node_service.specs.declared.service.ServiceEnd.TheVariants as ends
use Rattle.node_service.specs.Ends.{Ends, EndsOf, IsOrdered, NetworkAt, at_moment, end_without_node}
use Rattle.node_files.specs.Orders.{Order}
use Rattle.node_files.specs.NodeFiles.{Answers, Counts, IsAuthorityAlone, IsNodeOf}

pub ends_without : {P A : Type 0} (answers : Node → Connection P A → Type 0) (order : Order) (files files' : Option Files) (service : ServiceAt P) (a b n : ℕ) (fault : NodeFault) → files' ≡ files
    → Answers files (λ (node : Node). IsNodeOf files order.config node × IsAuthorityAlone node) (Err fault) → Counts {X = Node} a b (Err fault)
    → Ends answers order (at_moment files service a n)
    (at_moment files' service b n) (end_without_node fault)
ends_without answers order files files' service a b n Input same none counts = record {
  served = λ is. search (rules, is);
  input = λ is node it alone. none node (it, alone);
  unserved = λ is. refl;
  unread = λ is. refl;
  failed = λ is. search (rules, is);
  memory = λ is. inl refl;
  store = record { only = λ is. search (rules, is); always = λ grew. search (rules, grew, counts) };
  network = record { only = λ is. search (rules, is); always = λ grew. search (rules, grew) };
  files = same;
}
ends_without answers order files files' service a b n Store same none counts = record {
  served = λ is. search (rules, is);
  input = λ is node it alone. search (rules, is);
  unserved = λ is. refl;
  unread = λ is. refl;
  failed = λ is. search (rules, is);
  memory = λ is. inl refl;
  store = record { only = λ is. counts; always = λ grew. refl };
  network = record { only = λ is. search (rules, is); always = λ grew. search (rules, grew) };
  files = same;
}
ends_without answers order files files' service a b n Memory same none counts = record {
  served = λ is. search (rules, is);
  input = λ is node it alone. search (rules, is);
  unserved = λ is. refl;
  unread = λ is. refl;
  failed = λ is. search (rules, is);
  memory = λ is. inl refl;
  store = record { only = λ is. search (rules, is); always = λ grew. search (rules, grew, counts) };
  network = record { only = λ is. search (rules, is); always = λ grew. search (rules, grew) };
  files = same;
}

-- so does the node of the file
pub ends_with : {P A : Type 0} (answers : Node → Connection P A → Type 0) (order : Order) (files files' : Option Files) (service service' : ServiceAt P) (a b m n : ℕ) (node : Node) (end : ServiceEnd)
    → files' ≡ files → b ≡ a → IsOrdered order files node → EndsOf answers node order.post (record { service = service; faults = m }) (record { service = service'; faults = n }) end
    → Ends answers order (at_moment files service a m)
    (at_moment files' service' b n) end
ends_with answers order files files' service service' a b m n node ends.Served same steady is of = record {
  served = λ _. record { node = node; is = is; serves = of.0 };
  input = λ e. search (rules, e);
  unserved = λ e. search (rules, e);
  store = record { only = λ e. search (rules, e); always = λ grew. search (rules, grew, steady) };
  unread = λ e. search (rules, e);
  network = record { only = λ e. search (rules, e); always = λ grew. let s = of.1 in search (rules, grew, s) };
  failed = λ e. search (rules, e);
  memory = λ e. search (rules, e);
  files = same;
}
ends_with answers order files files' service service' a b m n node ends.NetworkFailed same steady is of = record {
  served = λ e. search (rules, e);
  input = λ e. search (rules, e);
  unserved = λ e. search (rules, e);
  store = record { only = λ e. search (rules, e); always = λ grew. search (rules, grew, steady) };
  unread = λ e. search (rules, e);
  network = record { only = λ _. of.1; always = λ _. refl };
  failed = λ _. record { node = node; is = is; after = of.0 };
  memory = λ e. search (rules, e);
  files = same;
}
ends_with {P} answers order files files' service service' a b m n node ends.Memory same steady is (inl unserved) = record {
  served = λ e. search (rules, e);
  input = λ e. search (rules, e);
  unserved = λ e. search (rules, e);
  store = record { only = λ e. search (rules, e); always = λ grew. search (rules, grew, steady) };
  unread = λ e. search (rules, e);
  network = record { only = λ e. search (rules, e); always = λ grew. let s = ap (λ (w : NetworkAt P). w.faults) unserved in search (rules, grew, s) };
  failed = λ e. search (rules, e);
  memory = λ _. inl (ap (λ (w : NetworkAt P). w.service) unserved);
  files = same;
}
ends_with answers order files files' service service' a b m n node ends.Memory same steady is (inr of) = record {
  served = λ e. search (rules, e);
  input = λ e. search (rules, e);
  unserved = λ e. search (rules, e);
  store = record { only = λ e. search (rules, e); always = λ grew. search (rules, grew, steady) };
  unread = λ e. search (rules, e);
  network = record { only = λ e. search (rules, e); always = λ grew. let s = of.1 in search (rules, grew, s) };
  failed = λ e. search (rules, e);
  memory = λ _. inr (record { node = node; is = is; after = of.0 });
  files = same;
}
ends_with answers order files files' service service' a b m n node ends.Input same steady is of = elim of [ ]
ends_with answers order files files' service service' a b m n node ends.StoreFailed same steady is of = elim of [ ]
