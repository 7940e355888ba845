mod Gathering
